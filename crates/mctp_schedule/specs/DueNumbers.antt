-- The numbers of the requests that a tick found due.
use Rattle.std.specs.Prelude.{ℕ, Bool, true, false, List, []}
use Rattle.pldm_requester.specs.declared.results.Due.{Due}

-- those of a tick that found nothing
abbrev pub nothing_due : Due
nothing_due = record { again = record { items = [] }; given_up = record { items = [] } }

abbrev pub are_none : List ℕ → List ℕ → Bool
are_none [] [] = true
are_none _ _ = false

-- whether the tick found nothing
abbrev pub found_nothing : Due → Bool
found_nothing due = are_none due.again.items due.given_up.items
