-- The moments so far are later.
use Rattle.std.proofs.Common.{◌≡◌, ◌+◌, Some, length, map, take}
use Rattle.mctpctl_state.proofs.kept.kept_before_next.Given as goal

abbrev pub invariant-loop-place : goal.invariant-loop-place
invariant-loop-place l = record {
  moments : l.moments.items ≡ map (λ moment. Some (moment + l.later)) (take l.place l.openings.moments.items);
  end : l.place-end ≡ length l.openings.moments.items;
}
