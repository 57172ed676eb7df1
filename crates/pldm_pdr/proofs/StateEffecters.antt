-- The state effecter: what is read was taken, and is read again.
use Rattle.std.proofs.Common.{◌≡◌, ℕ, List, ◌++◌, Ok, refl, ap, subst, ◌∙◌}
use Rattle.byteorder.specs.Endian.{little_bytes}
use Rattle.pldm_pdr.specs.declared.state_effecter.StateEffecter.{StateEffecter}
use Rattle.pldm_pdr.specs.Fields.{byte, flag}
use Rattle.pldm_pdr.specs.Entities.{entity_bytes}
use Rattle.pldm_pdr.specs.StateSets.{composite_bytes}
use Rattle.pldm_pdr.specs.StateEffecters.{state_effecter_bytes, IsStateEffecter, state_effecter_at}
use Rattle.pldm_pdr.proofs.Steps.{IsBytes, stepped, goes_on, ok_is, Takes, with_next}
use Rattle.pldm_pdr.proofs.FieldsTaken.{byte_taken, flag_taken, number_taken}
use Rattle.pldm_pdr.proofs.FieldsAgain.{byte_again, flag_again, number_again}
use Rattle.pldm_pdr.proofs.Measures.{entity_taken, entity_again}
use Rattle.pldm_pdr.proofs.StateSets.{composite_taken, composite_again}
use Rattle.pldm_pdr.proofs.Regrouped.{regroup_7}

pub state_effecter_taken : (bytes : List ℕ) → IsBytes bytes → (x : StateEffecter × List ℕ) → state_effecter_at bytes ≡ Ok x → Takes bytes (state_effecter_bytes x.0) x.1 × IsStateEffecter x.0
unfolding state_effecter_at
state_effecter_taken bytes small x e =
    stepped e (number_taken 2 bytes small) (λ f1 t1 e1.
    stepped e1 (number_taken 2 f1.1 t1.0.small) (λ f2 t2 e2.
    stepped e2 (entity_taken f2.1 t2.0.small) (λ f3 t3 e3.
    stepped e3 (number_taken 2 f3.1 t3.0.small) (λ f4 t4 e4.
    stepped e4 (byte_taken f4.1 t4.0.small) (λ f5 t5 e5.
    stepped e5 (flag_taken f5.1 t5.0.small) (λ f6 t6 e6.
    stepped e6 (composite_taken f6.1 t6.small) (λ f7 t7 e7.
    subst (λ (y : StateEffecter × List ℕ). Takes bytes (state_effecter_bytes y.0) y.1 × IsStateEffecter y.0) (ok_is e7) (with_next (with_next (with_next (with_next (with_next (with_next t1.0 t2.0) t3.0) t4.0) t5.0) t6) t7.0, (t1.1, t2.1, t3.1, t4.1, t5.1, t7.1)))))))))

pub state_effecter_again : (effecter : StateEffecter) (rest : List ℕ) → IsStateEffecter effecter → state_effecter_at (state_effecter_bytes effecter ++ rest) ≡ Ok (effecter, rest)
unfolding state_effecter_at
state_effecter_again effecter rest ok =
    ap state_effecter_at (regroup_7 (little_bytes 2 effecter.terminus_handle) (little_bytes 2 effecter.effecter_id) (entity_bytes effecter.entity) (little_bytes 2 effecter.semantic_id) (byte effecter.init) (flag effecter.has_description) (composite_bytes effecter.sets.items) rest)
    ∙ goes_on _ (number_again 2 effecter.terminus_handle _ ok.0) (goes_on _ (number_again 2 effecter.effecter_id _ ok.1) (goes_on _ (entity_again effecter.entity _ ok.2) (goes_on _ (number_again 2 effecter.semantic_id _ ok.3) (goes_on _ (byte_again effecter.init _) (goes_on _ (flag_again effecter.has_description _) (goes_on _ (composite_again effecter.sets.items _ ok.5) refl))))))
