-- Data read by a layout, by place: the first field that fails is the fault.
use Rattle.std.specs.Prelude.{ℕ, ◌+◌, ◌*◌, ◌==◌, nat_lt, Bool, true, false, ◌||◌, List, length, slice_index, take, drop}
use Rattle.std.specs.Prelude.{Option, Some, None, Result, Ok, Err, if◌then◌else◌}
use Rattle.byteorder.specs.Endian.{little_from}
use Rattle.pldm_wire.specs.Layouts.{Shape, Byte, Number, SizeCode, Sized, Flag, Checksum, Bytes, Reserved, Sets}
use Rattle.pldm_wire.specs.Layouts.{SensorStates, EffecterStates, Layout, End, Rest, EndOr, Then, Value, Values}
use Rattle.pldm_wire.specs.Numbers.{value_of}
use Rattle.pldm_wire.specs.Sizes.{size_of, width}
use Rattle.pldm_wire.specs.States.{sets_in, sensor_states_in, effecter_states_in}
use Rattle.pldm_wire.specs.TransferFlags.{flag_of}

-- why values are not read: a wrong length of the data, or a field with a wrong value
pub data FieldFault : Type 0 where
  WrongLength : FieldFault
  WrongValue : FieldFault

-- what follows a success, and a success under a function
abbrev pub and_then : {A B : Type 0} → Result A FieldFault → (A → Result B FieldFault) → Result B FieldFault
and_then (Ok value) next = next value
and_then (Err fault) next = Err fault

abbrev pub map_ok : {A B : Type 0} → (A → B) → Result A FieldFault → Result B FieldFault
map_ok f (Ok value) = Ok (f value)
map_ok f (Err fault) = Err fault

-- a value, where the number has one, and a number that passes a test
abbrev pub some_or_wrong : {A : Type 0} → Option A → Result A FieldFault
some_or_wrong (Some value) = Ok value
some_or_wrong None = Err WrongValue

abbrev pub passing : (ℕ → Bool) → ℕ → Result ℕ FieldFault
passing test number = if test number then Ok number else Err WrongValue

-- the bytes of a field
abbrev pub span : Shape → ℕ
span (Byte test) = 1
span (Number count test) = count
span SizeCode = 1
span (Sized size) = width size
span Flag = 1
span (Checksum true) = 1
span (Checksum false) = 0
span (Bytes count) = count
span Reserved = 1
span (Sets count) = 2 * count
span (SensorStates count) = 4 * count
span (EffecterStates count) = 3 * count

-- the field at a place where its bytes are there
abbrev pub field_in : (shape : Shape) → ℕ → List ℕ → Result (Value shape) FieldFault
field_in (Byte test) place bytes = passing test (slice_index bytes place)
field_in (Number count test) place bytes = passing test (little_from place count bytes)
field_in SizeCode place bytes = some_or_wrong (size_of (slice_index bytes place))
field_in (Sized size) place bytes = Ok (value_of size (little_from place (width size) bytes))
field_in Flag place bytes = some_or_wrong (flag_of (slice_index bytes place))
field_in (Checksum true) place bytes = Ok (Some (slice_index bytes place))
field_in (Checksum false) place bytes = Ok None
field_in (Bytes count) place bytes = Ok (take count (drop place bytes))
field_in Reserved place bytes = Ok tt
field_in (Sets count) place bytes = Ok (sets_in (take (2 * count) (drop place bytes)))
field_in (SensorStates count) place bytes = Ok (sensor_states_in (take (4 * count) (drop place bytes)))
field_in (EffecterStates count) place bytes = Ok (effecter_states_in (take (3 * count) (drop place bytes)))

abbrev pub field_at : (shape : Shape) → ℕ → List ℕ → Result (Value shape) FieldFault
field_at shape place bytes =
    if nat_lt (length bytes) (place + span shape) then Err WrongLength else field_in shape place bytes

-- the values of a layout from a place on, or the fault of the first field that fails
abbrev pub values_at : (layout : Layout) → ℕ → List ℕ → Result (Values layout) FieldFault
values_at End place bytes = if length bytes == place then Ok tt else Err WrongLength
values_at (Rest test) place bytes = if test (drop place bytes) then Ok (drop place bytes) else Err WrongLength
values_at (EndOr count) place bytes =
    if (length bytes == place) || (length bytes == place + count) then Ok tt else Err WrongLength
values_at (Then shape layout) place bytes =
    and_then (field_at shape place bytes)
    (λ value. map_ok (λ values. (value, values)) (values_at (layout value) (place + span shape) bytes))
