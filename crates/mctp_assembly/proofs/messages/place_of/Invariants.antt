-- What was found so far is the place of the number, counted from 1; 0 where it was none of those so far.
use Rattle.std.proofs.Common.{◌≡◌, ◌≢◌, ◌+◌, ◌-◌, ◌<◌, ℕ}
use Rattle.std.specs.Prelude.{slice_index_or}
use Rattle.mctp_assembly.proofs.messages.place_of.Given as goal

abbrev pub invariant-loop-other : goal.invariant-loop-other
invariant-loop-other l =
    (l.next ≡ l.other-index + 1)
    × ((j : ℕ) → j < l.other-index → slice_index_or l.numbers j 0 ≡ l.number → l.found ≡ j + 1)
    × (l.found ≢ 0 → (l.found - 1 < l.other-index) × (slice_index_or l.numbers (l.found - 1) 0 ≡ l.number))
