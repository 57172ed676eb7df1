-- Data as a table of fields: a layout is a list of shapes and an end, and a shape may depend on the fields before it.
-- Here stand the values that a layout has, the bytes that they are written as, and when they stand in given bytes
-- (DSP0240, "Byte ordering"; DSP0248).
use Rattle.std.specs.Prelude.{◌≡◌, ◌⊎◌, ℕ, ◌<◌, ◌^◌, ℤ, Bool, true, List, [], ◌∷◌, ◌++◌, length, Option, is_some}
use Rattle.std.specs.List.{flat_map}
use Rattle.byteorder.specs.Endian.{little_bytes}
use Rattle.pldm_wire.specs.Numbers.{Stands, StandsSized, number_bytes, sized}
use Rattle.pldm_wire.specs.RecordParts.{checksum_bytes}
use Rattle.pldm_wire.specs.Sizes.{size_code, Fits}
use Rattle.pldm_wire.specs.States.{set_bytes, sensor_bytes, effecter_bytes}
use Rattle.pldm_wire.specs.TransferFlags.{flag_number}
use Rattle.pldm_wire.specs.declared.size.Size.{Size}
use Rattle.pldm_wire.specs.declared.transfer_flag.TransferFlag.{TransferFlag}
use Rattle.pldm_wire.specs.declared.state_fields.SetStateField.{SetStateField}
use Rattle.pldm_wire.specs.declared.state_fields.SensorStateField.{SensorStateField}
use Rattle.pldm_wire.specs.declared.state_fields.EffecterStateField.{EffecterStateField}

-- the shape of one field
pub data Shape : Type 0 where
  -- a byte that passes a test
  Byte : (ℕ → Bool) → Shape
  -- an unsigned number of so many bytes, lowest first, that passes a test
  Number : ℕ → (ℕ → Bool) → Shape
  -- a byte that is the number of a data size, and a number of a size
  SizeCode : Shape
  Sized : Size → Shape
  -- a byte that is the number of a transfer flag
  Flag : Shape
  -- a byte that is there where this is true
  Checksum : Bool → Shape
  -- so many bytes
  Bytes : ℕ → Shape
  -- a byte that is written as 0 and read as any
  Reserved : Shape
  -- so many fields of a state effecter that is set, of a state sensor, of a state effecter
  Sets : ℕ → Shape
  SensorStates : ℕ → Shape
  EffecterStates : ℕ → Shape

-- the value of a field
abbrev pub Value : Shape → Type 0
Value (Byte test) = ℕ
Value (Number count test) = ℕ
Value SizeCode = Size
Value (Sized size) = ℤ
Value Flag = TransferFlag
Value (Checksum is_there) = Option ℕ
Value (Bytes count) = List ℕ
Value Reserved = Unit {0}
Value (Sets count) = List SetStateField
Value (SensorStates count) = List SensorStateField
Value (EffecterStates count) = List EffecterStateField

-- fields one after another, and then nothing; or the rest of the data, which passes a test; or nothing or just so many
-- bytes that are ignored
pub data Layout : Type 0 where
  End : Layout
  Rest : (List ℕ → Bool) → Layout
  EndOr : ℕ → Layout
  Then : (shape : Shape) → (Value shape → Layout) → Layout

-- the values of a layout, in order
abbrev pub Values : Layout → Type 0
Values End = Unit {0}
Values (Rest test) = List ℕ
Values (EndOr count) = Unit {0}
Values (Then shape layout) = (value : Value shape) × Values (layout value)

-- the bytes that a field is written as
abbrev pub field_bytes : (shape : Shape) → Value shape → List ℕ
field_bytes (Byte test) byte = byte ∷ []
field_bytes (Number count test) number = little_bytes count number
field_bytes SizeCode size = size_code size ∷ []
field_bytes (Sized size) number = number_bytes (sized size number)
field_bytes Flag flag = flag_number flag ∷ []
field_bytes (Checksum is_there) checksum = checksum_bytes checksum
field_bytes (Bytes count) bytes = bytes
field_bytes Reserved value = 0 ∷ []
field_bytes (Sets count) fields = flat_map set_bytes fields
field_bytes (SensorStates count) fields = flat_map sensor_bytes fields
field_bytes (EffecterStates count) fields = flat_map effecter_bytes fields

-- the data that values are written as
abbrev pub bytes_of : (layout : Layout) → Values layout → List ℕ
bytes_of End values = []
bytes_of (Rest test) rest = rest
bytes_of (EndOr count) values = []
bytes_of (Then shape layout) values = field_bytes shape values.0 ++ bytes_of (layout values.0) values.1

-- the range of a field
abbrev pub InRange : (shape : Shape) → Value shape → Type 0
InRange (Byte test) byte = (byte < 256) × (test byte ≡ true)
InRange (Number count test) number = (number < 256 ^ count) × (test number ≡ true)
InRange SizeCode size = Unit {0}
InRange (Sized size) number = Fits size number
InRange Flag flag = Unit {0}
InRange (Checksum is_there) checksum = is_some checksum ≡ is_there
InRange (Bytes count) bytes = length bytes ≡ count
InRange Reserved value = Unit {0}
InRange (Sets count) fields = length fields ≡ count
InRange (SensorStates count) fields = length fields ≡ count
InRange (EffecterStates count) fields = length fields ≡ count

-- the ranges of values
abbrev pub AllInRange : (layout : Layout) → Values layout → Type 0
AllInRange End values = Unit {0}
AllInRange (Rest test) rest = test rest ≡ true
AllInRange (EndOr count) values = Unit {0}
AllInRange (Then shape layout) values = InRange shape values.0 × AllInRange (layout values.0) values.1

-- the field stands in exactly these bytes
abbrev pub StandsIn : (shape : Shape) → Value shape → List ℕ → Type 0
StandsIn (Byte test) byte bytes = (bytes ≡ byte ∷ []) × (test byte ≡ true)
StandsIn (Number count test) number bytes = Stands count number bytes × (test number ≡ true)
StandsIn SizeCode size bytes = bytes ≡ size_code size ∷ []
StandsIn (Sized size) number bytes = StandsSized (sized size number) bytes
StandsIn Flag flag bytes = bytes ≡ flag_number flag ∷ []
StandsIn (Checksum is_there) checksum bytes = (is_some checksum ≡ is_there) × (bytes ≡ checksum_bytes checksum)
StandsIn (Bytes count) value bytes = (length bytes ≡ count) × (value ≡ bytes)
StandsIn Reserved value bytes = length bytes ≡ 1
StandsIn (Sets count) fields bytes = (length fields ≡ count) × (bytes ≡ flat_map set_bytes fields)
StandsIn (SensorStates count) fields bytes = (length fields ≡ count) × (bytes ≡ flat_map sensor_bytes fields)
StandsIn (EffecterStates count) fields bytes = (length fields ≡ count) × (bytes ≡ flat_map effecter_bytes fields)

-- the values stand in exactly these bytes, one after another
abbrev pub StandIn : (layout : Layout) → Values layout → List ℕ → Type 0
StandIn End values bytes = bytes ≡ []
StandIn (Rest test) rest bytes = (bytes ≡ rest) × (test rest ≡ true)
StandIn (EndOr count) values bytes = (bytes ≡ []) ⊎ (length bytes ≡ count)
StandIn (Then shape layout) values bytes =
    (here : List ℕ) × (rest : List ℕ) × StandsIn shape values.0 here × StandIn (layout values.0) values.1 rest
    × (bytes ≡ here ++ rest)
