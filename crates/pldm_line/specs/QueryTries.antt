-- The tries of a query: how many there were, and when the latest began.
use Rattle.std.specs.Prelude.{ℕ, ◌+◌, ◌&&◌, Bool, true, false, nat_le, nat_lt, List, Option, is_none}
use Rattle.pldm_line.specs.declared.tries.Tries.{Tries}

-- the first is at this moment
abbrev pub tries_from : ℕ → ℕ → ℕ → Tries
tries_from again most moment = record { again = again; most = most; last = moment; count = 1 }

-- the latest has had its time
abbrev pub is_past : Tries → ℕ → Bool
is_past tries moment = nat_le (tries.last + tries.again) moment

-- all have
abbrev pub is_over : Tries → ℕ → Bool
is_over tries moment = is_past tries moment && nat_le tries.most tries.count

-- there is another one at this moment: no answer has come, the latest has had its time, and another one is left
abbrev pub is_again : Tries → ℕ → Option (List ℕ) → Bool
is_again tries moment answer = is_none answer && is_past tries moment && nat_lt tries.count tries.most

-- another one, where there is one
abbrev pub tried_again : Bool → Tries → ℕ → Tries
tried_again false tries moment = tries
tried_again true tries moment = record tries { last = moment; count = tries.count + 1 }
