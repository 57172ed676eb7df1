-- The first of some checks that fails, and the bytes before a PEC.
use Rattle.std.specs.Prelude.{ℕ, ◌-◌, Bool, List, [], ◌∷◌, length, take, slice_index, Option, Some, None}
use Rattle.std.specs.Prelude.{Result, Ok, Err, if◌then◌else◌}

abbrev pub first_failing : {F : Type 0} → List (Bool × F) → Option F
first_failing [] = None
first_failing ((fails, fault) ∷ checks) = if fails then Some fault else first_failing checks

-- what was found, unless there is a fault
abbrev pub unless : {F A : Type 0} → Option F → A → Result A F
unless None x = Ok x
unless (Some fault) x = Err fault

-- all bytes but the last
abbrev pub front : List ℕ → List ℕ
front bytes = take (length bytes - 1) bytes

abbrev pub last : List ℕ → ℕ
last bytes = slice_index bytes (length bytes - 1)
