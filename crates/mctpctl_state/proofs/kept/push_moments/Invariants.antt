-- The texts of the moments so far were added.
use Rattle.std.proofs.Common.{◌≡◌, ◌++◌, flat_map, length, take}
use Rattle.mctpctl_state.specs.States.{moment_text}
use Rattle.mctpctl_state.proofs.kept.push_moments.Given as goal

abbrev pub invariant-loop-place : goal.invariant-loop-place
invariant-loop-place l = record {
  added : l.out.items ≡ l.initial.out.items ++ flat_map moment_text (take l.place l.moments);
  end : l.place-end ≡ length l.moments;
}
