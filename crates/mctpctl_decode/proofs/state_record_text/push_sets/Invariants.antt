-- The text so far is that of the sets so far.
use Rattle.std.proofs.Common.{◌≡◌, ◌++◌, take, flat_map}
use Rattle.mctpctl_decode.specs.StateRecordTexts.{possible_states_line}
use Rattle.mctpctl_decode.proofs.state_record_text.push_sets.Given as goal

abbrev pub invariant-loop-states : goal.invariant-loop-states
invariant-loop-states l = l.out.items ≡ l.initial.out.items ++ flat_map possible_states_line (take l.states-index l.sets)
