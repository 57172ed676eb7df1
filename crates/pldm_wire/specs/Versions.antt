-- The version data of one part (DSP0240, "GetPLDMVersion command").
use Rattle.std.specs.Prelude.{◌≡◌, ℕ, ◌≤◌, ◌%◌, ◌==◌, nat_le, Bool, ◌&&◌, List, length}
use Rattle.pldm_wire.specs.declared.limits.TheConstants.{MIN_VERSION_BYTES, MAX_VERSION_BYTES, VERSION_BYTES}

-- whole versions, at least one and not too many
abbrev pub IsVersionData : List ℕ → Type 0
IsVersionData bytes =
    (MIN_VERSION_BYTES ≤ length bytes) × (length bytes ≤ MAX_VERSION_BYTES) × (length bytes % VERSION_BYTES ≡ 0)

-- the same as a test
abbrev pub is_version_data : List ℕ → Bool
is_version_data bytes =
    nat_le MIN_VERSION_BYTES (length bytes) && nat_le (length bytes) MAX_VERSION_BYTES
    && (length bytes % VERSION_BYTES == 0)
