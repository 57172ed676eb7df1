-- Completion codes (DSP0236, "MCTP control message completion codes").
use Rattle.std.specs.Prelude.{ℕ, ◌≤◌}

-- a code of a refusal: any byte but SUCCESS
abbrev pub IsCode : ℕ → Type 0
IsCode n = (1 ≤ n) × (n ≤ 255)

abbrev pub invalid_data : ℕ
invalid_data = 2

abbrev pub invalid_length : ℕ
invalid_length = 3

abbrev pub unsupported_command : ℕ
unsupported_command = 5

-- the own code of Get MCTP Version Support
abbrev pub message_type_not_supported : ℕ
message_type_not_supported = 128
