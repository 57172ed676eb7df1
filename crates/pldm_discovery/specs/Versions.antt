-- The last version in version data (DSP0240, "GetPLDMVersion command").
use Rattle.std.specs.Prelude.{ℕ, ◌-◌, ◌==◌, nat_lt, Bool, ◌&&◌, List, length, take, drop, if◌then◌else◌}
use Rattle.pldm_wire.specs.Crc32.{crc32}
use Rattle.pldm_wire.specs.Places.{u32_at}
use Rattle.pldm_wire.specs.declared.limits.TheConstants.{VERSION_BYTES}

-- the last four bytes, and those before them

abbrev pub last_four : List ℕ → List ℕ
last_four bytes = drop (length bytes - VERSION_BYTES) bytes

abbrev pub before_last_four : List ℕ → List ℕ
before_last_four bytes = take (length bytes - VERSION_BYTES) bytes

-- whether four bytes are the checksum of some before them
unfoldable pub is_checksum_of : List ℕ → List ℕ → Bool
is_checksum_of last front = nat_lt 0 (length front) && (u32_at 0 last == crc32 front)

-- the last version: the checksum of the versions, where it stands after them, is none
unfoldable pub last_version : List ℕ → List ℕ
last_version bytes =
    if is_checksum_of (last_four bytes) (before_last_four bytes) then last_four (before_last_four bytes)
    else last_four bytes
