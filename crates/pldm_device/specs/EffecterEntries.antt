-- The effecters of a description.
use Rattle.std.specs.Prelude.{ℕ, ◌==◌, ℤ, int_le, Bool, true, false, ◌&&◌, codes}
use Rattle.std.specs.Prelude.{List, [], ◌∷◌, ◌++◌, length, Result, Ok, Err, if◌then◌else◌}
use Rattle.std.specs.List.{list_any}
use Rattle.toml.specs.Data.{Data, Items, no_items, item, Members}
use Rattle.pldm_wire.specs.Numbers.{SizedNumber}
use Rattle.pldm_wire.specs.declared.size.Size.{Size}
use Rattle.pldm_records.specs.ById.{ById, has_id}
use Rattle.pldm_device.specs.KeyValues.{◌>>=◌, value_at, table_in}
use Rattle.pldm_device.specs.NumberLists.{integers_in, numbers_upto, few_numbers, few_lists, composite_of}
use Rattle.pldm_device.specs.SizeNames.{size_in, sized_in}
use Rattle.simulated_device.specs.StateEffecters.{FieldsOfStates}
use Rattle.pldm_device.specs.Entries.{entries_at, id_at, things_after}
use Rattle.pldm_device.specs.declared.limits.TheConstants.{MAX_ALLOWED, MAX_BYTE}
use Rattle.simulated_device.specs.declared.numeric.NumericEffecter.{NumericEffecter}
use Rattle.pldm_device.specs.declared.description_fault.FileFault.{FileFault}
use Rattle.pldm_device.specs.declared.description_fault.FileFault.TheVariants.{OutOfRange}

-- a number that is not below the other
abbrev pub not_below : ℤ → SizedNumber → Result SizedNumber FileFault
not_below min number = if int_le min number.value then Ok number else Err OutOfRange

-- a number that is not above the other
abbrev pub not_above : ℤ → SizedNumber → Result SizedNumber FileFault
not_above max number = if int_le number.value max then Ok number else Err OutOfRange

-- a number of the size, not below the other
abbrev pub number_from : Size → ℤ → Data → Result SizedNumber FileFault
number_from size min value = sized_in size value >>= not_below min

-- the value of an effecter of the size, from one number to another
abbrev pub value_between : Size → ℤ → ℤ → Members → Result SizedNumber FileFault
value_between size min max entry = value_at (codes "value") entry >>= number_from size min >>= not_above max

abbrev pub numeric_effecter_in : Members → Result (ℕ × NumericEffecter) FileFault
numeric_effecter_in entry = do
  id ← id_at entry
  size ← value_at (codes "size") entry >>= size_in
  min ← value_at (codes "min") entry >>= sized_in size
  max ← value_at (codes "max") entry >>= number_from size min.value
  value ← value_between size min.value max.value entry
  Ok (id, record { min = min.value; max = max.value; value = value })

abbrev pub numeric_effecter_of : Data → Result (ℕ × NumericEffecter) FileFault
numeric_effecter_of value = table_in value >>= numeric_effecter_in

abbrev pub numeric_effecters_after : ById NumericEffecter → Items → Result (ById NumericEffecter) FileFault
numeric_effecters_after before entries = things_after numeric_effecter_of (λ id. false) before entries

abbrev pub numeric_effecters_in : Members → Result (ById NumericEffecter) FileFault
numeric_effecters_in document = entries_at (codes "numeric_effecter") document >>= numeric_effecters_after []

-- the states that a field can take: at least one
abbrev pub states_in : Data → Result (List ℕ) FileFault
states_in value = integers_in value >>= numbers_upto MAX_ALLOWED MAX_BYTE >>= composite_of

-- the lists before, and those of the values after them
abbrev pub allowed_after : List (List ℕ) → Items → Result (List (List ℕ)) FileFault
allowed_after before no_items = Ok before
allowed_after before (item value rest) = states_in value >>= λ states. allowed_after (before ++ states ∷ []) rest

abbrev pub allowed_in : Data → Result (List (List ℕ)) FileFault
allowed_in value = few_lists value >>= allowed_after [] >>= composite_of

-- each state is in the list of its field
abbrev pub are_in : List ℕ → List (List ℕ) → Bool
are_in (state ∷ states) (list ∷ lists) = list_any (λ other. other == state) list && are_in states lists
are_in _ _ = true

-- a state for each list
abbrev pub states_among : List (List ℕ) → List ℕ → Result (List ℕ) FileFault
states_among allowed states =
    if (length states == length allowed) && are_in states allowed then composite_of states else Err OutOfRange

abbrev pub state_effecter_in : Members → Result (ℕ × FieldsOfStates) FileFault
state_effecter_in entry = do
  id ← id_at entry
  allowed ← value_at (codes "allowed") entry >>= allowed_in
  states ← value_at (codes "values") entry >>= few_numbers MAX_BYTE >>= states_among allowed
  Ok (id, record { allowed = allowed; states = states })

abbrev pub state_effecter_of : Data → Result (ℕ × FieldsOfStates) FileFault
state_effecter_of value = table_in value >>= state_effecter_in

-- no ID is that of a numeric effecter
abbrev pub state_effecters_after :
    ById NumericEffecter → ById FieldsOfStates → Items → Result (ById FieldsOfStates) FileFault
state_effecters_after numeric before entries = things_after state_effecter_of (λ id. has_id id numeric) before entries

abbrev pub state_effecters_in : ById NumericEffecter → Members → Result (ById FieldsOfStates) FileFault
state_effecters_in numeric document = entries_at (codes "state_effecter") document >>= state_effecters_after numeric []
