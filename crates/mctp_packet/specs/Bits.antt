-- Single bits of a byte.
use Rattle.std.specs.Prelude.{ℕ, ◌/◌, ◌%◌, ◌^◌, ◌==◌, Bool, true, false}

abbrev pub bit : Bool → ℕ
bit false = 0
bit true = 1

-- bit k of a byte is 1
abbrev pub is_set : ℕ → ℕ → Bool
is_set byte k = byte / 2 ^ k % 2 == 1
