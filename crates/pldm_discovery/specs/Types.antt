-- The PLDM types that a terminus has (DSP0240, "GetPLDMTypes command").
use Rattle.std.specs.Prelude.{ℕ, ◌/◌, ◌%◌, ◌^◌, ◌==◌, nat_le, Bool, ◌&&◌, List, slice_index, Option}
use Rattle.std.specs.List.{find, range_with_len}
use Rattle.pldm_discovery.specs.declared.limits.TheConstants.{MAX_TYPES}

-- type t is bit t mod 8 of byte t / 8
abbrev pub has_type : List ℕ → ℕ → Bool
has_type types pldm_type = slice_index types (pldm_type / 8) / 2 ^ (pldm_type % 8) % 2 == 1

-- the first of all types that is among these and not below a number
unfoldable pub next_type : List ℕ → ℕ → Option ℕ
next_type types least =
    find (λ pldm_type. nat_le least pldm_type && has_type types pldm_type) (range_with_len 0 MAX_TYPES)
