-- Data as a list of parts, one after another: the bytes that parts are written as, and when they stand in given bytes.
use Rattle.std.specs.Prelude.{◌≡◌, ℕ, ◌<◌, ◌^◌, List, [], ◌∷◌, ◌++◌, length}
use Rattle.std.specs.List.{flat_map}
use Rattle.byteorder.specs.Endian.{little_bytes}
use Rattle.pldm_wire.specs.Numbers.{Stands}

-- a byte, an unsigned number of so many bytes, lowest first, bytes as they are, or so many of them
pub data Part : Type 0 where
  Byte : ℕ → Part
  Number : ℕ → ℕ → Part
  Bytes : List ℕ → Part
  Sized : ℕ → List ℕ → Part

-- the bytes that a part is written as, and parts
abbrev pub part_bytes : Part → List ℕ
part_bytes (Byte byte) = byte ∷ []
part_bytes (Number count number) = little_bytes count number
part_bytes (Bytes bytes) = bytes
part_bytes (Sized count bytes) = bytes

abbrev pub parts_bytes : List Part → List ℕ
parts_bytes parts = flat_map part_bytes parts

-- the range of a part
abbrev pub IsPart : Part → Type 0
IsPart (Byte byte) = byte < 256
IsPart (Number count number) = number < 256 ^ count
IsPart (Bytes bytes) = Unit {0}
IsPart (Sized count bytes) = length bytes ≡ count

-- the part stands in exactly these bytes
abbrev pub PartIn : Part → List ℕ → Type 0
PartIn (Byte byte) bytes = bytes ≡ byte ∷ []
PartIn (Number count number) bytes = Stands count number bytes
PartIn (Bytes text) bytes = bytes ≡ text
PartIn (Sized count text) bytes = (bytes ≡ text) × (length bytes ≡ count)

-- the parts stand in exactly these bytes, one after another
abbrev pub PartsIn : List Part → List ℕ → Type 0
PartsIn [] bytes = bytes ≡ []
PartsIn (part ∷ parts) bytes =
    (here : List ℕ) × (rest : List ℕ) × PartIn part here × PartsIn parts rest × (bytes ≡ here ++ rest)
