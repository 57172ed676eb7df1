-- Laws over the definitions alone.
use Rattle.std.specs.Prelude.{◌≡◌, ℕ, ◌<◌, true, List, length}
use Rattle.std.specs.List.{All}
use Rattle.pldm_wire.specs.RecordParts.{Part}
use Rattle.pldm_records.specs.Transfers.{Followed, StatePlaces, joined_parts, parts_asked}

-- parts that are followed from the first on join to the record
abbrev pub PartsJoin : Type 0
PartsJoin = (pdr : List ℕ) (parts : List Part) → Followed pdr 0 parts → joined_parts parts ≡ pdr

-- and state their places
abbrev pub PartsStatePlaces : Type 0
PartsStatePlaces = (pdr : List ℕ) (parts : List Part) → Followed pdr 0 parts → StatePlaces pdr true parts

-- more requests than the record has bytes, of any numbers of bytes, get parts that are followed
abbrev pub PartsEnd : Type 0
PartsEnd =
    (pdr counts : List ℕ) → All (λ count. 0 < count) counts → length pdr < length counts
    → Followed pdr 0 (parts_asked pdr 0 counts)
