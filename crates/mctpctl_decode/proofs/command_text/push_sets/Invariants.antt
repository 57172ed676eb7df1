-- The text so far is that of the fields so far.
use Rattle.std.proofs.Common.{◌≡◌, ◌++◌, take, flat_map}
use Rattle.mctpctl_decode.specs.CommandTexts.{set_text}
use Rattle.mctpctl_decode.proofs.command_text.push_sets.Given as goal

abbrev pub invariant-loop-field : goal.invariant-loop-field
invariant-loop-field l = l.out.items ≡ l.initial.out.items ++ flat_map set_text (take l.field-index l.fields)
