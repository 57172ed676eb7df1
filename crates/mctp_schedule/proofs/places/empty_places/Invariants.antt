-- As many places as turns.
use Rattle.std.proofs.Common.{◌≡◌, length}
use Rattle.mctp_schedule.proofs.places.empty_places.Given as goal

abbrev pub invariant-loop : goal.invariant-loop
invariant-loop l = length l.places.items ≡ l.counter
