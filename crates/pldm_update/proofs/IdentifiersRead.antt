-- The descriptors that are read of data stand in it, and those that stand in it are read.
use Rattle.std.proofs.Common.{◌≡◌, ℕ, not, List, [], ◌∷◌, length, Result, Ok, Err, IfOk, refl, sym, ap, subst, ◌∙◌, arith, eqb-true, ltb-false}
use Rattle.std.proofs.lemmas.Bool.{eq-eqb, eqb-false, le-ltb, ne_eqb}
use Rattle.std.proofs.lemmas.List.{append-nil}
use Rattle.pldm_update.specs.DataParts.{Part, Byte, Number, parts_bytes}
use Rattle.pldm_update.specs.Identifiers.{descriptor_parts, descriptors_parts, identifiers_parts, identifiers_bytes, IsIdentifiers, IdentifiersIn}
use Rattle.pldm_update.specs.IdentifiersReading.{identifiers_at, or_field_fault}
use Rattle.pldm_update.specs.PackageReading.{descriptor_at}
use Rattle.pldm_update.specs.Packages.{Descriptor}
use Rattle.pldm_update.specs.declared.limits.TheConstants.{MAX_UPDATE_DATA}
use Rattle.pldm_update.specs.declared.package_fault.PackageFault.{PackageFault}
use Rattle.pldm_update.proofs.PackageSteps.{IsBytes, stepped, went_by, goes_by, not_false, ok_is}
use Rattle.pldm_update.proofs.PartsRead.{Took, and_then_took, byte_took, number_took, list_took, many_took, ItemReads, byte_reads, number_reads, list_reads, then_reads, then_is, all_read, many_reads, none_took, all_took, took_all, parts_length, parts_written, parts_are}

pub descriptor_took : (bytes : List ℕ) (x : Descriptor × List ℕ) → descriptor_at bytes ≡ Ok x → Took (descriptor_parts x.0) bytes x.1
unfolding descriptor_at
descriptor_took bytes x e =
    stepped e (number_took 2 bytes) (λ f1 t1 e1.
    stepped e1 (number_took 2 f1.1) (λ f2 t2 e2.
    stepped e2 (list_took f2.0 f2.1) (λ f3 t3 e3.
    let counted : Took (Number 2 (length f3.0) ∷ []) f1.1 f2.1 = subst (λ (n : ℕ). Took (Number 2 n ∷ []) f1.1 f2.1) (sym t3.1) t2 in
    subst (λ (y : Descriptor × List ℕ). Took (descriptor_parts y.0) bytes y.1) (ok_is e3) (and_then_took t1 (and_then_took counted t3.0)))))

pub descriptor_reads : ItemReads descriptor_at descriptor_parts
unfolding descriptor_at
descriptor_reads d ps bytes rest t =
    then_reads _ (number_reads 2 d.kind _ bytes rest t) (λ b1 t1.
    then_reads _ (number_reads 2 (length d.content) _ b1 rest t1) (λ b2 t2.
    then_reads _ (list_reads (length d.content) d.content _ b2 rest refl t2) (λ b3 t3. all_read t3)))

pub found_in : (bytes : List ℕ) (ds : List Descriptor) → identifiers_at bytes ≡ Ok ds → IdentifiersIn ds bytes
unfolding identifiers_at
found_in bytes ds e =
    stepped e (number_took 4 bytes) (λ f1 t1 e1.
    stepped e1 (byte_took f1.1) (λ f2 t2 e2.
    went_by _ e2 (λ same e3.
    went_by _ e3 (λ fits e4.
    went_by _ e4 (λ some e5.
    stepped e5 (many_took descriptor_at descriptor_parts descriptor_took f2.0 f2.1) (λ f3 t3 e6.
    went_by _ e6 (λ none e7.
    let left : length f3.1 ≡ 0 = eqb-true _ _ (not_false _ none) in
    let stand = all_took (descriptors_parts f3.0) f2.1 f3.1 left t3.0 in
    let size : f1.0 ≡ length (parts_bytes (descriptors_parts f3.0)) = eqb-true _ _ (not_false _ same) ∙ parts_length (descriptors_parts f3.0) f2.1 stand in
    let sized : Took (Number 4 (length (parts_bytes (descriptors_parts f3.0))) ∷ []) bytes f1.1 = subst (λ (n : ℕ). Took (Number 4 n ∷ []) bytes f1.1) size t1 in
    let counted : Took (Byte (length f3.0) ∷ []) f1.1 f2.1 = subst (λ (n : ℕ). Took (Byte n ∷ []) f1.1 f2.1) (sym t3.1) t2 in
    let whole = all_took (identifiers_parts f3.0) bytes f3.1 left (and_then_took sized (and_then_took counted t3.0)) in
    subst (λ (l : List Descriptor). IdentifiersIn l bytes) (ok_is e7)
    (whole, omega (arith, eqb-false _ _ some, t3.1), ltb-false _ _ fits))))))))

pub identifiers_only : (bytes : List ℕ) (ds : List Descriptor) → IdentifiersIn ds bytes → identifiers_at bytes ≡ Ok ds
unfolding identifiers_at
identifiers_only bytes ds h =
    let parts = descriptors_parts ds in
    then_is _ (number_reads 4 (length (parts_bytes parts)) _ bytes [] (took_all (identifiers_parts ds) bytes h.0)) (λ b1 t1.
    then_is _ (byte_reads (length ds) parts b1 [] t1) (λ b2 t2.
    goes_by _ (ap not (eq-eqb _ _ (sym (parts_length parts b2 (all_took parts b2 [] refl t2)))))
    (goes_by _ (le-ltb MAX_UPDATE_DATA (length bytes) h.2)
    (goes_by _ (ne_eqb (length ds) 0 (omega (arith, h.1)))
    (then_is _ (many_reads descriptor_at descriptor_parts descriptor_reads ds [] b2 [] (subst (λ (l : List Part). Took l b2 []) (sym (append-nil _)) t2)) (λ b3 t3.
    goes_by _ (ap not (eq-eqb _ _ (ap length (none_took b3 [] t3)))) refl))))))

sound : (bytes : List ℕ) (read : Result (List Descriptor) PackageFault) → ((ds : List Descriptor) → read ≡ Ok ds → IdentifiersIn ds bytes) → IfOk (or_field_fault read) (λ ds. IdentifiersIn ds bytes)
sound bytes (Ok ds) h = h ds refl
sound bytes (Err fault) h = tt

pub identifiers_found : (bytes : List ℕ) → IfOk (or_field_fault (identifiers_at bytes)) (λ ds. IdentifiersIn ds bytes)
identifiers_found bytes = sound bytes (identifiers_at bytes) (found_in bytes)

pub identifiers_written : (ds : List Descriptor) → IsIdentifiers ds → IdentifiersIn ds (identifiers_bytes ds)
identifiers_written ds h = (parts_written (identifiers_parts ds) h.1, h.0, h.2)

-- data in which they stand is what they are written as
pub identifiers_are : (bytes : List ℕ) (ds : List Descriptor) → IsBytes bytes → IdentifiersIn ds bytes → (bytes ≡ identifiers_bytes ds) × IsIdentifiers ds
identifiers_are bytes ds small h =
    let are = parts_are (identifiers_parts ds) bytes small h.0 in
    (are.0, (h.1, are.1, omega (arith, ap length are.0, h.2)))
