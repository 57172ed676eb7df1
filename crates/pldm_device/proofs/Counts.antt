-- A slice of values beside its items.
use Rattle.std.proofs.Common.{◌≡◌, List, [], ◌∷◌, length, refl, arith}
use Rattle.toml.specs.View.{items_view}
use Rattle.toml.specs.declared.value.Value.{Value}
use Rattle.pldm_device.specs.NumberLists.{count}

pub counted : (values : List Value) → count (items_view values) ≡ length values
counted [] = refl
counted (value ∷ rest) = omega (arith, counted rest)
