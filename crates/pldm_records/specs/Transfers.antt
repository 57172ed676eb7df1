-- A record that is transferred part by part (DSP0248, "GetPDR command").
use Rattle.std.specs.Prelude.{◌≡◌, ℕ, ◌<◌, Bool, false, List, [], ◌∷◌, true, Some, None, if◌then◌else◌}
use Rattle.std.specs.List.{flat_map}
use Rattle.pldm_wire.specs.Crc.{crc}
use Rattle.pldm_wire.specs.RecordParts.{Part}
use Rattle.pldm_records.specs.Records.{flag_of_part, is_last_part, next_data_transfer_handle, part_of}

-- the part from an offset on for a request of some bytes, at least one, and the next transfer handle
-- that comes with it
pub record IsPartFrom (pdr : List ℕ) (offset next : ℕ) (answered : Part) : Type 0 where
  pub count : ℕ
  pub asks : 0 < count
  pub part_is : answered ≡ part_of pdr offset count
  pub next_is : next ≡ next_data_transfer_handle pdr offset count

-- parts in turn, the first from the offset on: each other one begins at the next transfer handle of
-- the one before, and the last one has none
abbrev pub Followed : List ℕ → ℕ → List Part → Type 0
Followed pdr offset [] = ⊥
Followed pdr offset (last ∷ []) = IsPartFrom pdr offset 0 last
Followed pdr offset (part ∷ following ∷ rest) =
    (next : ℕ) × (0 < next) × IsPartFrom pdr offset next part × Followed pdr next (following ∷ rest)

-- the parts that requests of so many bytes each get in turn, up to the last
abbrev pub parts_asked : List ℕ → ℕ → List ℕ → List Part
parts_asked pdr offset [] = []
parts_asked pdr offset (count ∷ counts) =
    part_of pdr offset count
    ∷ (if is_last_part pdr offset count then []
    else parts_asked pdr (next_data_transfer_handle pdr offset count) counts)

-- the bytes of the parts, one after another
abbrev pub joined_parts : List Part → List ℕ
joined_parts parts = flat_map (λ part. part.bytes) parts

-- the flags say which part is the first and which the last, and the record's checksum comes with the
-- last of several alone
abbrev pub StatePlaces : List ℕ → Bool → List Part → Type 0
StatePlaces pdr is_first [] = ⊥
StatePlaces pdr is_first (last ∷ []) =
    (last.flag ≡ flag_of_part is_first true) × (last.transfer_crc ≡ (if is_first then None else Some (crc pdr)))
StatePlaces pdr is_first (part ∷ following ∷ rest) =
    (part.flag ≡ flag_of_part is_first false) × (part.transfer_crc ≡ None) × StatePlaces pdr false (following ∷ rest)
