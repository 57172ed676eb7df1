-- The firmware parameters that are read of data stand in it, and those that stand in it are read.
use Rattle.std.proofs.Common.{◌≡◌, ℕ, not, List, [], ◌∷◌, ◌++◌, length, Result, Ok, Err, IfOk, refl, sym, ap, subst, arith, eqb-true, ltb-false}
use Rattle.std.proofs.lemmas.Bool.{eq-eqb, le-ltb}
use Rattle.std.proofs.lemmas.List.{append-nil}
use Rattle.std.specs.List.{flat_map}
use Rattle.pldm_update.specs.DataParts.{Part, Byte, Number, Sized}
use Rattle.pldm_update.specs.IdentifiersReading.{or_field_fault}
use Rattle.pldm_update.specs.Parameters.{ComponentVersion, ComponentParameters, FirmwareParameters, version_parts, component_parts, parameters_parts, parameters_bytes, AreParameters, ParametersIn}
use Rattle.pldm_update.specs.ParametersReading.{VersionHead, version_at, with_text, component_at, parameters_at}
use Rattle.pldm_update.specs.VersionTexts.{version_text}
use Rattle.pldm_update.specs.declared.limits.TheConstants.{MAX_UPDATE_DATA, RELEASE_BYTES}
use Rattle.pldm_update.specs.declared.package_fault.PackageFault.{PackageFault}
use Rattle.pldm_update.proofs.PackageSteps.{IsBytes, stepped, went_by, goes_by, not_false, ok_is}
use Rattle.pldm_update.proofs.PartsRead.{Took, and_then_took, byte_took, number_took, list_took, sized_took, many_took, Reads, ItemReads, byte_reads, number_reads, list_reads, sized_reads, then_reads, then_is, all_read, many_reads, none_took, all_took, took_all, parts_written, parts_are}

-- a version without its string
head_parts : VersionHead → List Part
head_parts h = Number 4 h.comparison_stamp ∷ Byte h.string_type ∷ Byte h.count ∷ Sized RELEASE_BYTES h.release ∷ []

head_took : (bytes : List ℕ) (x : VersionHead × List ℕ) → version_at bytes ≡ Ok x → Took (head_parts x.0) bytes x.1
unfolding version_at head_parts
head_took bytes x e =
    stepped e (number_took 4 bytes) (λ f1 t1 e1.
    stepped e1 (byte_took f1.1) (λ f2 t2 e2.
    stepped e2 (byte_took f2.1) (λ f3 t3 e3.
    stepped e3 (sized_took RELEASE_BYTES f3.1) (λ f4 t4 e4.
    subst (λ (y : VersionHead × List ℕ). Took (head_parts y.0) bytes y.1) (ok_is e4) (and_then_took t1 (and_then_took t2 (and_then_took t3 t4)))))))

abbrev head_of : ComponentVersion → VersionHead
head_of v = record { comparison_stamp = v.comparison_stamp; string_type = v.version.string_type; count = length v.version.text; release = v.release }

head_reads : (v : ComponentVersion) (ps : List Part) (bytes rest : List ℕ) → Took (version_parts v ++ ps) bytes rest → Reads (version_at bytes) (head_of v) ps rest
unfolding version_at
head_reads v ps bytes rest t =
    then_reads _ (number_reads 4 v.comparison_stamp _ bytes rest t) (λ b1 t1.
    then_reads _ (byte_reads v.version.string_type _ b1 rest t1) (λ b2 t2.
    then_reads _ (byte_reads (length v.version.text) _ b2 rest t2) (λ b3 t3.
    then_reads _ (sized_reads RELEASE_BYTES v.release _ b3 rest t3) (λ b4 t4. all_read t4))))

-- the string has as many bytes as its head says
head_counted : (head : VersionHead) (text bytes rest : List ℕ) → length text ≡ head.count → Took (head_parts head) bytes rest → Took (version_parts (with_text head text)) bytes rest
unfolding head_parts
head_counted head text bytes rest counted t =
    subst (λ (n : ℕ). Took (Number 4 head.comparison_stamp ∷ Byte head.string_type ∷ Byte n ∷ Sized RELEASE_BYTES head.release ∷ []) bytes rest) (sym counted) t

pub component_took : (bytes : List ℕ) (x : ComponentParameters × List ℕ) → component_at bytes ≡ Ok x → Took (component_parts x.0) bytes x.1
unfolding component_at
component_took bytes x e =
    stepped e (number_took 2 bytes) (λ f1 t1 e1.
    stepped e1 (number_took 2 f1.1) (λ f2 t2 e2.
    stepped e2 (byte_took f2.1) (λ f3 t3 e3.
    stepped e3 (head_took f3.1) (λ f4 t4 e4.
    stepped e4 (head_took f4.1) (λ f5 t5 e5.
    stepped e5 (number_took 2 f5.1) (λ f6 t6 e6.
    stepped e6 (number_took 4 f6.1) (λ f7 t7 e7.
    stepped e7 (list_took f4.0.count f7.1) (λ f8 t8 e8.
    stepped e8 (list_took f5.0.count f8.1) (λ f9 t9 e9.
    let active = head_counted f4.0 f8.0 f3.1 f4.1 t8.1 t4 in
    let pending = head_counted f5.0 f9.0 f4.1 f5.1 t9.1 t5 in
    subst (λ (y : ComponentParameters × List ℕ). Took (component_parts y.0) bytes y.1) (ok_is e9)
    (and_then_took t1 (and_then_took t2 (and_then_took t3 (and_then_took active (and_then_took pending (and_then_took t6 (and_then_took t7 (and_then_took t8.0 t9.0)))))))))))))))))

pub component_reads : ItemReads component_at component_parts
unfolding component_at
component_reads c ps bytes rest t =
    then_reads _ (number_reads 2 c.component.classification _ bytes rest t) (λ b1 t1.
    then_reads _ (number_reads 2 c.component.identifier _ b1 rest t1) (λ b2 t2.
    then_reads _ (byte_reads c.component.index _ b2 rest t2) (λ b3 t3.
    then_reads _ (head_reads c.active _ b3 rest t3) (λ b4 t4.
    then_reads _ (head_reads c.pending _ b4 rest t4) (λ b5 t5.
    then_reads _ (number_reads 2 c.activation_methods _ b5 rest t5) (λ b6 t6.
    then_reads _ (number_reads 4 c.capabilities _ b6 rest t6) (λ b7 t7.
    then_reads _ (list_reads (length c.active.version.text) c.active.version.text _ b7 rest refl t7) (λ b8 t8.
    then_reads _ (list_reads (length c.pending.version.text) c.pending.version.text _ b8 rest refl t8) (λ b9 t9. all_read t9)))))))))

pub found_in : (bytes : List ℕ) (p : FirmwareParameters) → parameters_at bytes ≡ Ok p → ParametersIn p bytes
unfolding parameters_at
found_in bytes p e =
    went_by _ e (λ fits e0.
    stepped e0 (number_took 4 bytes) (λ f1 t1 e1.
    stepped e1 (number_took 2 f1.1) (λ f2 t2 e2.
    stepped e2 (byte_took f2.1) (λ f3 t3 e3.
    stepped e3 (byte_took f3.1) (λ f4 t4 e4.
    stepped e4 (byte_took f4.1) (λ f5 t5 e5.
    stepped e5 (byte_took f5.1) (λ f6 t6 e6.
    stepped e6 (list_took f4.0 f6.1) (λ f7 t7 e7.
    stepped e7 (list_took f6.0 f7.1) (λ f8 t8 e8.
    stepped e8 (many_took component_at component_parts component_took f2.0 f8.1) (λ f9 t9 e9.
    went_by _ e9 (λ none e10.
    let left : length f9.1 ≡ 0 = eqb-true _ _ (not_false _ none) in
    let count : Took (Number 2 (length f9.0) ∷ []) f1.1 f2.1 = subst (λ (n : ℕ). Took (Number 2 n ∷ []) f1.1 f2.1) (sym t9.1) t2 in
    let active : Took (Byte (length f7.0) ∷ []) f3.1 f4.1 = subst (λ (n : ℕ). Took (Byte n ∷ []) f3.1 f4.1) (sym t7.1) t4 in
    let pending : Took (Byte (length f8.0) ∷ []) f5.1 f6.1 = subst (λ (n : ℕ). Took (Byte n ∷ []) f5.1 f6.1) (sym t8.1) t6 in
    let whole = and_then_took t1 (and_then_took count (and_then_took t3 (and_then_took active (and_then_took t5 (and_then_took pending (and_then_took t7.0 (and_then_took t8.0 t9.0))))))) in
    let read : FirmwareParameters = record { capabilities = f1.0; active = version_text f3.0 f7.0; pending = version_text f5.0 f8.0; components = f9.0 } in
    subst (λ (y : FirmwareParameters). ParametersIn y bytes) (ok_is e10) (all_took (parameters_parts read) bytes f9.1 left whole, ltb-false _ _ fits))))))))))))

pub parameters_only : (bytes : List ℕ) (p : FirmwareParameters) → ParametersIn p bytes → parameters_at bytes ≡ Ok p
unfolding parameters_at
parameters_only bytes p h =
    goes_by _ (le-ltb MAX_UPDATE_DATA (length bytes) h.1)
    (then_is _ (number_reads 4 p.capabilities _ bytes [] (took_all (parameters_parts p) bytes h.0)) (λ b1 t1.
    then_is _ (number_reads 2 (length p.components) _ b1 [] t1) (λ b2 t2.
    then_is _ (byte_reads p.active.string_type _ b2 [] t2) (λ b3 t3.
    then_is _ (byte_reads (length p.active.text) _ b3 [] t3) (λ b4 t4.
    then_is _ (byte_reads p.pending.string_type _ b4 [] t4) (λ b5 t5.
    then_is _ (byte_reads (length p.pending.text) _ b5 [] t5) (λ b6 t6.
    then_is _ (list_reads (length p.active.text) p.active.text _ b6 [] refl t6) (λ b7 t7.
    then_is _ (list_reads (length p.pending.text) p.pending.text (flat_map component_parts p.components) b7 [] refl t7) (λ b8 t8.
    then_is _ (many_reads component_at component_parts component_reads p.components [] b8 [] (subst (λ (l : List Part). Took l b8 []) (sym (append-nil _)) t8)) (λ b9 t9.
    goes_by _ (ap not (eq-eqb _ _ (ap length (none_took b9 [] t9)))) refl))))))))))

sound : (bytes : List ℕ) (read : Result FirmwareParameters PackageFault) → ((p : FirmwareParameters) → read ≡ Ok p → ParametersIn p bytes) → IfOk (or_field_fault read) (λ p. ParametersIn p bytes)
sound bytes (Ok p) h = h p refl
sound bytes (Err fault) h = tt

pub parameters_found : (bytes : List ℕ) → IfOk (or_field_fault (parameters_at bytes)) (λ p. ParametersIn p bytes)
parameters_found bytes = sound bytes (parameters_at bytes) (found_in bytes)

pub parameters_written : (p : FirmwareParameters) → AreParameters p → ParametersIn p (parameters_bytes p)
parameters_written p h = (parts_written (parameters_parts p) h.0, h.1)

-- data in which they stand is what they are written as
pub parameters_are : (bytes : List ℕ) (p : FirmwareParameters) → IsBytes bytes → ParametersIn p bytes → (bytes ≡ parameters_bytes p) × AreParameters p
parameters_are bytes p small h =
    let are = parts_are (parameters_parts p) bytes small h.0 in
    (are.0, (are.1, omega (arith, ap length are.0, h.1)))
