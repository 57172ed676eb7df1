-- Completion codes (DSP0240, "Generic PLDM completion codes").
use Rattle.std.specs.Prelude.{ℕ, ◌≤◌}

-- a code of a refusal: any byte but SUCCESS
abbrev pub IsCode : ℕ → Type 0
IsCode n = (1 ≤ n) × (n ≤ 255)
