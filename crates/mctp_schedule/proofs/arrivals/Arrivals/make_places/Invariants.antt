-- There are as many places as were counted, and the new ones have no instance ID.
use Rattle.std.proofs.Common.{◌≡◌, ℕ, length}
use Rattle.mctp_schedule.specs.ArrivedIds.{ids_at}
use Rattle.mctp_schedule.proofs.arrivals.Arrivals.make_places.Given as goal

abbrev pub invariant-loop : goal.invariant-loop
invariant-loop l = record {
  counted : length l.self.sources.items ≡ l.counter;
  same : (source : ℕ) → ids_at l.self source ≡ ids_at l.fn.self source;
}
