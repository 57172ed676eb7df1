-- An entity is three numbers.
use Rattle.std.proofs.Common.{◌≡◌, ◌≢◌, List, [], ◌∷◌, length, Err, refl}
use Rattle.toml.specs.View.{items_view}
use Rattle.toml.specs.declared.value.Value.{Value}
use Rattle.pldm_device.specs.RecordKeys.{entity_of}
use Rattle.pldm_device.specs.declared.description_fault.FileFault.TheVariants.{OutOfRange}

pub of_other : (values : List Value) → length values ≢ 3 → entity_of (items_view values) ≡ Err OutOfRange
of_other [] other = refl
of_other (first ∷ []) other = refl
of_other (first ∷ second ∷ []) other = refl
of_other (first ∷ second ∷ third ∷ []) other = absurd (other refl)
of_other (first ∷ second ∷ third ∷ fourth ∷ rest) other = refl
