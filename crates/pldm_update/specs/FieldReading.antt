-- Data read by a layout, by place: the first field that fails is the fault.
use Rattle.std.specs.Prelude.{ℕ, ◌+◌, ◌-◌, nat_lt, ◌==◌, List, length, slice_index, take, drop, Option, Some, None}
use Rattle.std.specs.Prelude.{Result, Ok, Err, if◌then◌else◌}
use Rattle.byteorder.specs.Endian.{little_from}
use Rattle.pldm_update.specs.IdentifiersReading.{identifiers_at, or_field_fault}
use Rattle.pldm_update.specs.ParametersReading.{parameters_at}
use Rattle.pldm_update.specs.TableParts.{part_of}
use Rattle.pldm_update.specs.UpdateStates.{state_of}
use Rattle.pldm_update.specs.VersionTexts.{VersionText, version_text}
use Rattle.pldm_update.specs.Layouts.{Shape, Byte, Number, Part, State, Text, Layout, End, Rest, Identifiers, Parameters, Then}
use Rattle.pldm_update.specs.Layouts.{Value, Values}
use Rattle.pldm_update.specs.declared.table_part.TablePart.{TablePart}
use Rattle.pldm_update.specs.declared.update_state.UpdateState.{UpdateState}
use Rattle.pldm_update.specs.declared.fault.UpdateFault.{UpdateFault}
use Rattle.pldm_update.specs.declared.fault.UpdateFault.TheVariants.{Length, Value as WrongValue}

-- what follows a success, and a success under a function
abbrev pub and_then : {A B : Type 0} → Result A UpdateFault → (A → Result B UpdateFault) → Result B UpdateFault
and_then (Ok value) next = next value
and_then (Err fault) next = Err fault

abbrev pub map_ok : {A B : Type 0} → (A → B) → Result A UpdateFault → Result B UpdateFault
map_ok f (Ok value) = Ok (f value)
map_ok f (Err fault) = Err fault

-- a value, where the number has one
abbrev pub some_or_wrong : {A : Type 0} → Option A → Result A UpdateFault
some_or_wrong (Some value) = Ok value
some_or_wrong None = Err WrongValue

-- the byte at a place
unfoldable pub byte_at : ℕ → List ℕ → Result ℕ UpdateFault
byte_at place bytes = if nat_lt (length bytes) (place + 1) then Err Length else Ok (slice_index bytes place)

-- the unsigned number of so many bytes at a place, lowest first
unfoldable pub number_at : ℕ → ℕ → List ℕ → Result ℕ UpdateFault
number_at count place bytes =
    if nat_lt (length bytes) (place + count) then Err Length else Ok (little_from place count bytes)

-- the byte at a place as a part of the component table, and as a state
unfoldable pub part_at : ℕ → List ℕ → Result TablePart UpdateFault
part_at place bytes =
    if nat_lt (length bytes) (place + 1) then Err Length else some_or_wrong (part_of (slice_index bytes place))

unfoldable pub state_at : ℕ → List ℕ → Result UpdateState UpdateFault
state_at place bytes =
    if nat_lt (length bytes) (place + 1) then Err Length else some_or_wrong (state_of (slice_index bytes place))

-- the version string at a place
unfoldable pub text_at : ℕ → List ℕ → Result VersionText UpdateFault
text_at place bytes =
    if nat_lt (length bytes) (place + 2) then Err Length
    else if nat_lt (length bytes) (place + 2 + slice_index bytes (place + 1)) then Err Length
    else Ok (version_text (slice_index bytes place) (take (slice_index bytes (place + 1)) (drop (place + 2) bytes)))

-- the bytes from a place on, so many at most
unfoldable pub rest_at : ℕ → ℕ → List ℕ → Result (List ℕ) UpdateFault
rest_at most place bytes =
    if nat_lt most (length bytes - place) then Err Length else Ok (drop place bytes)

-- nothing is left from a place on
unfoldable pub end_at : ℕ → List ℕ → Result (Unit {0}) UpdateFault
end_at place bytes = if length bytes == place then Ok tt else Err Length

-- the field at a place, and the place after it
abbrev pub field_at : (shape : Shape) → ℕ → List ℕ → Result (Value shape) UpdateFault
field_at Byte place bytes = byte_at place bytes
field_at (Number count) place bytes = number_at count place bytes
field_at Part place bytes = part_at place bytes
field_at State place bytes = state_at place bytes
field_at Text place bytes = text_at place bytes

abbrev pub after : (shape : Shape) → Value shape → ℕ → ℕ
after Byte byte place = place + 1
after (Number count) number place = place + count
after Part part place = place + 1
after State state place = place + 1
after Text version place = place + 2 + length version.text

-- the values of a layout from a place on, or the fault of the first field that fails
abbrev pub values_at : (layout : Layout) → ℕ → List ℕ → Result (Values layout) UpdateFault
values_at End place bytes = end_at place bytes
values_at (Rest most) place bytes = rest_at most place bytes
values_at Identifiers place bytes = or_field_fault (identifiers_at (drop place bytes))
values_at Parameters place bytes = or_field_fault (parameters_at (drop place bytes))
values_at (Then shape layout) place bytes =
    and_then (field_at shape place bytes)
    (λ value. map_ok (λ values. (value, values)) (values_at layout (after shape value place) bytes))

-- a row of the table: a layout, and what its values make
pub record Row (A : Type 0) : Type 0 where
  pub layout : Layout
  pub make : Values layout → A

abbrev pub row : {A : Type 0} → (layout : Layout) → (Values layout → A) → Row A
row layout make = record { layout = layout; make = make }

-- what data is by a row
abbrev pub read_row : {A : Type 0} → Row A → List ℕ → Result A UpdateFault
read_row r bytes = map_ok r.make (values_at r.layout 0 bytes)
