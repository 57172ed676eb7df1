-- Which command a message is of.
use Rattle.std.specs.Prelude.{ℕ, ◌<◌}

-- the PLDM type, and the command's number in that type
pub record TypeAndCommand : Type 0 where
  pub pldm_type : ℕ
  pub command : ℕ

abbrev pub of_type : ℕ → ℕ → TypeAndCommand
of_type pldm_type command = record { pldm_type = pldm_type; command = command }

-- the PLDM type has six bits
abbrev pub IsKind : TypeAndCommand → Type 0
IsKind kind = kind.pldm_type < 64
