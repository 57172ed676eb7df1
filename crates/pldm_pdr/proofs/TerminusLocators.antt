-- The terminus locator: what is read was taken, and is read again.
use Rattle.std.proofs.Common.{◌≡◌, ℕ, List, ◌++◌, Ok, refl, ap, subst, ◌∙◌}
use Rattle.byteorder.specs.Endian.{little_bytes}
use Rattle.pldm_pdr.specs.declared.limits.TheConstants.{MCTP_EID, EID_BYTES}
use Rattle.pldm_pdr.specs.declared.fault.RecordFault.TheVariants.{Locator}
use Rattle.pldm_pdr.specs.declared.locator.TerminusLocator.{TerminusLocator}
use Rattle.pldm_pdr.specs.Fields.{byte, flag}
use Rattle.pldm_pdr.specs.TerminusLocators.{terminus_locator_bytes, IsTerminusLocator, terminus_locator_at}
use Rattle.pldm_pdr.proofs.Steps.{IsBytes, stepped, goes_on, ok_is, Takes, with_next}
use Rattle.pldm_pdr.proofs.FieldsTaken.{byte_taken, flag_taken, number_taken, constant_taken}
use Rattle.pldm_pdr.proofs.FieldsAgain.{byte_again, flag_again, number_again, constant_again}
use Rattle.pldm_pdr.proofs.Regrouped.{regroup_7}

pub terminus_locator_taken : (bytes : List ℕ) → IsBytes bytes → (x : TerminusLocator × List ℕ) → terminus_locator_at bytes ≡ Ok x → Takes bytes (terminus_locator_bytes x.0) x.1 × IsTerminusLocator x.0
unfolding terminus_locator_at
terminus_locator_taken bytes small x e =
    stepped e (number_taken 2 bytes small) (λ f1 t1 e1.
    stepped e1 (flag_taken f1.1 t1.0.small) (λ f2 t2 e2.
    stepped e2 (byte_taken f2.1 t2.small) (λ f3 t3 e3.
    stepped e3 (number_taken 2 f3.1 t3.0.small) (λ f4 t4 e4.
    stepped e4 (constant_taken Locator MCTP_EID f4.1 t4.0.small) (λ f5 t5 e5.
    stepped e5 (constant_taken Locator EID_BYTES f5 t5.small) (λ f6 t6 e6.
    stepped e6 (byte_taken f6 t6.small) (λ f7 t7 e7.
    subst (λ (y : TerminusLocator × List ℕ). Takes bytes (terminus_locator_bytes y.0) y.1 × IsTerminusLocator y.0) (ok_is e7) (with_next (with_next (with_next (with_next (with_next (with_next t1.0 t2) t3.0) t4.0) t5) t6) t7.0, (t1.1, t3.1, t4.1, t7.1)))))))))

pub terminus_locator_again : (locator : TerminusLocator) (rest : List ℕ) → IsTerminusLocator locator → terminus_locator_at (terminus_locator_bytes locator ++ rest) ≡ Ok (locator, rest)
unfolding terminus_locator_at
terminus_locator_again locator rest ok =
    ap terminus_locator_at (regroup_7 (little_bytes 2 locator.terminus_handle) (flag locator.is_valid) (byte locator.tid) (little_bytes 2 locator.container_id) (byte MCTP_EID) (byte EID_BYTES) (byte locator.eid) rest)
    ∙ goes_on _ (number_again 2 locator.terminus_handle _ ok.0) (goes_on _ (flag_again locator.is_valid _) (goes_on _ (byte_again locator.tid _) (goes_on _ (number_again 2 locator.container_id _ ok.2) (goes_on _ (constant_again Locator MCTP_EID _) (goes_on _ (constant_again Locator EID_BYTES _) (goes_on _ (byte_again locator.eid _) refl))))))
