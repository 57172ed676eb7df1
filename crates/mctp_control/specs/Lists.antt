-- Lists of versions and of message types in one answer.
use Rattle.std.specs.Prelude.{◌≡◌, ℕ, ◌≤◌, ◌%◌, ◌==◌, nat_le, Bool, ◌&&◌, List, length}
use Rattle.mctp_control.specs.declared.assigned.TheConstants.{MAX_MESSAGE_TYPES, MAX_VERSION_BYTES, VERSION_BYTES}

-- whole versions, at least one and not too many
abbrev pub IsVersions : List ℕ → Type 0
IsVersions bytes =
    (VERSION_BYTES ≤ length bytes) × (length bytes ≤ MAX_VERSION_BYTES) × (length bytes % VERSION_BYTES ≡ 0)

-- the same as a test
abbrev pub is_versions : List ℕ → Bool
is_versions bytes =
    nat_le VERSION_BYTES (length bytes) && nat_le (length bytes) MAX_VERSION_BYTES
    && (length bytes % VERSION_BYTES == 0)

-- not too many
abbrev pub IsTypes : List ℕ → Type 0
IsTypes types = length types ≤ MAX_MESSAGE_TYPES
