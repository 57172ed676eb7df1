-- What identifies a firmware device: its descriptors, the initial one first (DSP0267, "QueryDeviceIdentifiers command").
use Rattle.std.specs.Prelude.{◌≡◌, ℕ, ◌+◌, ◌<◌, ◌≤◌, List, [], ◌∷◌, length}
use Rattle.std.specs.List.{flat_map}
use Rattle.pldm_update.specs.DataParts.{Part, Byte, Number, Bytes, IsPart, PartsIn, parts_bytes}
use Rattle.pldm_update.specs.Packages.{Descriptor, Each}
use Rattle.pldm_update.specs.declared.limits.TheConstants.{MAX_UPDATE_DATA}

abbrev pub descriptor : ℕ → List ℕ → Descriptor
descriptor kind content = record { kind = kind; content = content }

-- its type, its length, and as many bytes
abbrev pub descriptor_parts : Descriptor → List Part
descriptor_parts d = Number 2 d.kind ∷ Number 2 (length d.content) ∷ Bytes d.content ∷ []

abbrev pub descriptors_parts : List Descriptor → List Part
descriptors_parts descriptors = flat_map descriptor_parts descriptors

-- how many bytes the descriptors have, how many there are, and these
abbrev pub identifiers_parts : List Descriptor → List Part
identifiers_parts descriptors =
    Number 4 (length (parts_bytes (descriptors_parts descriptors))) ∷ Byte (length descriptors)
    ∷ descriptors_parts descriptors

abbrev pub identifiers_bytes : List Descriptor → List ℕ
identifiers_bytes descriptors = parts_bytes (identifiers_parts descriptors)

-- there is the initial one, each field is in its range, and all fit one answer
abbrev pub IsIdentifiers : List Descriptor → Type 0
IsIdentifiers descriptors =
    (0 < length descriptors) × Each IsPart (identifiers_parts descriptors)
    × (length (identifiers_bytes descriptors) ≤ MAX_UPDATE_DATA)

-- they stand in exactly these bytes, which fit one answer
abbrev pub IdentifiersIn : List Descriptor → List ℕ → Type 0
IdentifiersIn descriptors bytes =
    PartsIn (identifiers_parts descriptors) bytes × (0 < length descriptors) × (length bytes ≤ MAX_UPDATE_DATA)

-- data that is kept is what they are written as
abbrev pub IsKept : List Descriptor → List ℕ → Type 0
IsKept descriptors bytes = (bytes ≡ identifiers_bytes descriptors) × IsIdentifiers descriptors

-- the data of so many descriptors: the bytes of the first ones, and the last one
abbrev pub parts_with : ℕ → List ℕ → ℕ → List ℕ → List Part
parts_with count first kind last =
    Number 4 (length first + 4 + length last) ∷ Byte count ∷ Bytes first
    ∷ Number 2 kind ∷ Number 2 (length last) ∷ Bytes last ∷ []
