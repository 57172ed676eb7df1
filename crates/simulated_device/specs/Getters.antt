-- What the getters of the simulated device return for a thing by its position.
use Rattle.std.specs.Prelude.{ℕ, ℤ, List}
use Rattle.std.specs.Ordering.{nat_cmp}
use Rattle.std.specs.List.Sorted.{IsStrictlySortedBy}
use Rattle.std.specs.Map.{keys_of}
use Rattle.std.specs.Borrow.{Bor}
use Rattle.pldm_records.specs.ById.{ById}
use Rattle.simulated_device.specs.StateEffecters.{FieldsOfStates}
use Rattle.simulated_device.specs.declared.numeric.NumericSensor.{NumericSensor}
use Rattle.simulated_device.specs.declared.numeric.NumericEffecter.{NumericEffecter}

-- the IDs ascend
abbrev pub AscendingIds : {X : Type 0} → ById X → Type 0
AscendingIds things = IsStrictlySortedBy nat_cmp (keys_of things)

abbrev pub reading_of : ℕ × NumericSensor → ℕ × ℤ
reading_of entry = (entry.0, entry.1.reading.value)

abbrev pub value_of : ℕ × NumericEffecter → ℕ × ℤ
value_of entry = (entry.0, entry.1.value.value)

abbrev pub states_of : ℕ × FieldsOfStates → ℕ × List ℕ
states_of entry = (entry.0, entry.1.states)

-- an ID and the states that a slice shows
abbrev pub shown : ℕ × Bor (List ℕ) → ℕ × List ℕ
shown pair = (pair.0, pair.1.now)
