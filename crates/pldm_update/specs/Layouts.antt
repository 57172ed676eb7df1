-- Data as a table of fields: a layout is a list of shapes and an end. Here stand the values that a layout has, the
-- bytes that they are written as, and when they stand in given bytes.
use Rattle.std.specs.Prelude.{◌≡◌, ℕ, ◌<◌, ◌≤◌, ◌^◌, List, [], ◌∷◌, ◌++◌, length}
use Rattle.byteorder.specs.Endian.{little_number, little_bytes}
use Rattle.pldm_update.specs.Identifiers.{identifiers_bytes, IsIdentifiers, IdentifiersIn}
use Rattle.pldm_update.specs.Packages.{Descriptor}
use Rattle.pldm_update.specs.Parameters.{FirmwareParameters, parameters_bytes, AreParameters, ParametersIn}
use Rattle.pldm_update.specs.TableParts.{part_number}
use Rattle.pldm_update.specs.UpdateStates.{state_number}
use Rattle.pldm_update.specs.VersionTexts.{VersionText, IsVersionText}
use Rattle.pldm_update.specs.declared.table_part.TablePart.{TablePart}
use Rattle.pldm_update.specs.declared.update_state.UpdateState.{UpdateState}

-- the shape of one field
pub data Shape : Type 0 where
  -- any byte
  Byte : Shape
  -- an unsigned number of so many bytes, lowest first
  Number : ℕ → Shape
  -- a byte that is the number of a part of the component table
  Part : Shape
  -- a byte that is the number of a state
  State : Shape
  -- a version string: its type, its length, and as many bytes
  Text : Shape

-- fields one after another, and then nothing, or the rest of the data: of so many bytes at most, descriptors of a
-- device, or its firmware parameters
pub data Layout : Type 0 where
  End : Layout
  Rest : ℕ → Layout
  Identifiers : Layout
  Parameters : Layout
  Then : Shape → Layout → Layout

-- the value of a field
abbrev pub Value : Shape → Type 0
Value Byte = ℕ
Value (Number count) = ℕ
Value Part = TablePart
Value State = UpdateState
Value Text = VersionText

-- the values of a layout, in order
abbrev pub Values : Layout → Type 0
Values End = Unit {0}
Values (Rest most) = List ℕ
Values Identifiers = List Descriptor
Values Parameters = FirmwareParameters
Values (Then shape layout) = Value shape × Values layout

-- the bytes that a field is written as
abbrev pub field_bytes : (shape : Shape) → Value shape → List ℕ
field_bytes Byte byte = byte ∷ []
field_bytes (Number count) number = little_bytes count number
field_bytes Part part = part_number part ∷ []
field_bytes State state = state_number state ∷ []
field_bytes Text version = version.string_type ∷ length version.text ∷ version.text

-- the data that values are written as
abbrev pub bytes_of : (layout : Layout) → Values layout → List ℕ
bytes_of End values = []
bytes_of (Rest most) rest = rest
bytes_of Identifiers descriptors = identifiers_bytes descriptors
bytes_of Parameters parameters = parameters_bytes parameters
bytes_of (Then shape layout) values = field_bytes shape values.0 ++ bytes_of layout values.1

-- the range of a field
abbrev pub InRange : (shape : Shape) → Value shape → Type 0
InRange Byte byte = byte < 256
InRange (Number count) number = number < 256 ^ count
InRange Part part = Unit {0}
InRange State state = Unit {0}
InRange Text version = IsVersionText version

-- the ranges of values
abbrev pub AllInRange : (layout : Layout) → Values layout → Type 0
AllInRange End values = Unit {0}
AllInRange (Rest most) rest = length rest ≤ most
AllInRange Identifiers descriptors = IsIdentifiers descriptors
AllInRange Parameters parameters = AreParameters parameters
AllInRange (Then shape layout) values = InRange shape values.0 × AllInRange layout values.1

-- the field stands in exactly these bytes
abbrev pub StandsIn : (shape : Shape) → Value shape → List ℕ → Type 0
StandsIn Byte byte bytes = bytes ≡ byte ∷ []
StandsIn (Number count) number bytes = (length bytes ≡ count) × (number ≡ little_number count bytes)
StandsIn Part part bytes = bytes ≡ part_number part ∷ []
StandsIn State state bytes = bytes ≡ state_number state ∷ []
StandsIn Text version bytes = bytes ≡ version.string_type ∷ length version.text ∷ version.text

-- the values stand in exactly these bytes, one after another
abbrev pub StandIn : (layout : Layout) → Values layout → List ℕ → Type 0
StandIn End values bytes = bytes ≡ []
StandIn (Rest most) rest bytes = (bytes ≡ rest) × (length rest ≤ most)
StandIn Identifiers descriptors bytes = IdentifiersIn descriptors bytes
StandIn Parameters parameters bytes = ParametersIn parameters bytes
StandIn (Then shape layout) values bytes =
    (here : List ℕ) × (rest : List ℕ) × StandsIn shape values.0 here × StandIn layout values.1 rest
    × (bytes ≡ here ++ rest)
