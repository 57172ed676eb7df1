-- The bytes so far were added.
use Rattle.std.proofs.Common.{◌≡◌, ◌++◌, flat_map, length, take}
use Rattle.mctpctl_state.specs.Names.{byte_part}
use Rattle.mctpctl_state.proofs.place.push_name.Given as goal

abbrev pub invariant-loop-place : goal.invariant-loop-place
invariant-loop-place l = record {
  added : l.out.items ≡ l.initial.out.items ++ flat_map byte_part (take l.place l.path);
  end : l.place-end ≡ length l.path;
}
