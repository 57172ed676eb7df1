-- A record of a description, and one that is there already, computed from the definitions.
use Rattle.std.proofs.Common.{◌≡◌, List, [], ◌∷◌, ℕ, Ok, Err, refl}
use Rattle.pldm_device.specs.RecordEntries.{checked, with_record}
use Rattle.pldm_device.specs.declared.description_fault.FileFault.TheVariants.{BadRecord, Duplicate}

abbrev seven : List ℕ
seven = 7 ∷ 0 ∷ 0 ∷ 0 ∷ 1 ∷ 1 ∷ 0 ∷ 0 ∷ 2 ∷ 0 ∷ 30 ∷ 40 ∷ []

abbrev eleven : List ℕ
eleven = 11 ∷ 0 ∷ 0 ∷ 0 ∷ 1 ∷ 1 ∷ 0 ∷ 0 ∷ 0 ∷ 0 ∷ []

checks : (checked seven ≡ Ok seven) × (checked [] ≡ Err BadRecord)
checks = (refl, refl)

added : (with_record (eleven ∷ []) seven ≡ Ok (eleven ∷ seven ∷ [])) × (with_record (eleven ∷ seven ∷ []) seven ≡ Err Duplicate)
added = (refl, refl)
