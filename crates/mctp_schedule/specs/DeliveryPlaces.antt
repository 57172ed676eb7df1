-- A place among deliveries, as it is stored.
use Rattle.std.specs.Prelude.{ℕ, zero, suc, Option, Some, None}

-- the last place within the first n, where there is one
abbrev pub last_within : ℕ → Option ℕ
last_within zero = None
last_within (suc n) = Some n
