-- The records of auxiliary names: what is read was taken, and is read again.
use Rattle.std.proofs.Common.{◌≡◌, ℕ, List, ◌++◌, Ok, refl, ap, subst, ◌∙◌}
use Rattle.byteorder.specs.Endian.{little_bytes}
use Rattle.pldm_pdr.specs.declared.limits.TheConstants.{NO_SHARED_NAMES}
use Rattle.pldm_pdr.specs.declared.fault.RecordFault.TheVariants.{Shared}
use Rattle.pldm_pdr.specs.declared.names.SensorNames.{SensorNames}
use Rattle.pldm_pdr.specs.declared.names.EffecterNames.{EffecterNames}
use Rattle.pldm_pdr.specs.declared.names.EntityNames.{EntityNames}
use Rattle.pldm_pdr.specs.Fields.{byte}
use Rattle.pldm_pdr.specs.Entities.{entity_bytes}
use Rattle.pldm_pdr.specs.Names.{names_end, all_names_end}
use Rattle.pldm_pdr.specs.NameRecords.{sensor_names_bytes, IsSensorNames, sensor_names_at, effecter_names_bytes, IsEffecterNames, effecter_names_at, entity_names_bytes, IsEntityNames, entity_names_at}
use Rattle.pldm_pdr.proofs.Steps.{IsBytes, stepped, goes_on, ok_is, Takes, with_next}
use Rattle.pldm_pdr.proofs.FieldsTaken.{number_taken, constant_taken}
use Rattle.pldm_pdr.proofs.FieldsAgain.{number_again, constant_again}
use Rattle.pldm_pdr.proofs.Measures.{entity_taken, entity_again}
use Rattle.pldm_pdr.proofs.NamesTaken.{names_ends, all_names_ends, text_found, text_read}
use Rattle.pldm_pdr.proofs.Regrouped.{regroup_3}

pub sensor_names_taken : (bytes : List ℕ) → IsBytes bytes → (x : SensorNames × List ℕ) → sensor_names_at bytes ≡ Ok x → Takes bytes (sensor_names_bytes x.0) x.1 × IsSensorNames x.0
unfolding sensor_names_at
sensor_names_taken bytes small x e =
    stepped e (number_taken 2 bytes small) (λ f1 t1 e1.
    stepped e1 (number_taken 2 f1.1 t1.0.small) (λ f2 t2 e2.
    stepped e2 (text_found all_names_end all_names_ends f2.1 t2.0.small) (λ f3 t3 e3.
    subst (λ (y : SensorNames × List ℕ). Takes bytes (sensor_names_bytes y.0) y.1 × IsSensorNames y.0) (ok_is e3) (with_next (with_next t1.0 t2.0) t3.0, (t1.1, t2.1, t3.1, t3.2)))))

pub sensor_names_again : (names : SensorNames) (rest : List ℕ) → IsSensorNames names → sensor_names_at (sensor_names_bytes names ++ rest) ≡ Ok (names, rest)
unfolding sensor_names_at
sensor_names_again names rest ok =
    ap sensor_names_at (regroup_3 (little_bytes 2 names.terminus_handle) (little_bytes 2 names.sensor_id) (names.names.items) rest)
    ∙ goes_on _ (number_again 2 names.terminus_handle _ ok.0) (goes_on _ (number_again 2 names.sensor_id _ ok.1) (goes_on _ (text_read all_names_end all_names_ends names.names.items _ ok.2 ok.3) refl))

pub effecter_names_taken : (bytes : List ℕ) → IsBytes bytes → (x : EffecterNames × List ℕ) → effecter_names_at bytes ≡ Ok x → Takes bytes (effecter_names_bytes x.0) x.1 × IsEffecterNames x.0
unfolding effecter_names_at
effecter_names_taken bytes small x e =
    stepped e (number_taken 2 bytes small) (λ f1 t1 e1.
    stepped e1 (number_taken 2 f1.1 t1.0.small) (λ f2 t2 e2.
    stepped e2 (text_found all_names_end all_names_ends f2.1 t2.0.small) (λ f3 t3 e3.
    subst (λ (y : EffecterNames × List ℕ). Takes bytes (effecter_names_bytes y.0) y.1 × IsEffecterNames y.0) (ok_is e3) (with_next (with_next t1.0 t2.0) t3.0, (t1.1, t2.1, t3.1, t3.2)))))

pub effecter_names_again : (names : EffecterNames) (rest : List ℕ) → IsEffecterNames names → effecter_names_at (effecter_names_bytes names ++ rest) ≡ Ok (names, rest)
unfolding effecter_names_at
effecter_names_again names rest ok =
    ap effecter_names_at (regroup_3 (little_bytes 2 names.terminus_handle) (little_bytes 2 names.effecter_id) (names.names.items) rest)
    ∙ goes_on _ (number_again 2 names.terminus_handle _ ok.0) (goes_on _ (number_again 2 names.effecter_id _ ok.1) (goes_on _ (text_read all_names_end all_names_ends names.names.items _ ok.2 ok.3) refl))

pub entity_names_taken : (bytes : List ℕ) → IsBytes bytes → (x : EntityNames × List ℕ) → entity_names_at bytes ≡ Ok x → Takes bytes (entity_names_bytes x.0) x.1 × IsEntityNames x.0
unfolding entity_names_at
entity_names_taken bytes small x e =
    stepped e (entity_taken bytes small) (λ f1 t1 e1.
    stepped e1 (constant_taken Shared NO_SHARED_NAMES f1.1 t1.0.small) (λ f2 t2 e2.
    stepped e2 (text_found names_end names_ends f2 t2.small) (λ f3 t3 e3.
    subst (λ (y : EntityNames × List ℕ). Takes bytes (entity_names_bytes y.0) y.1 × IsEntityNames y.0) (ok_is e3) (with_next (with_next t1.0 t2) t3.0, (t1.1, t3.1, t3.2)))))

pub entity_names_again : (names : EntityNames) (rest : List ℕ) → IsEntityNames names → entity_names_at (entity_names_bytes names ++ rest) ≡ Ok (names, rest)
unfolding entity_names_at
entity_names_again names rest ok =
    ap entity_names_at (regroup_3 (entity_bytes names.entity) (byte NO_SHARED_NAMES) (names.names.items) rest)
    ∙ goes_on _ (entity_again names.entity _ ok.0) (goes_on _ (constant_again Shared NO_SHARED_NAMES _) (goes_on _ (text_read names_end names_ends names.names.items _ ok.1 ok.2) refl))
