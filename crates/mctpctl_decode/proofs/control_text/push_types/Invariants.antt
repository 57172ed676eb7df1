-- The text so far is that of the types so far.
use Rattle.std.proofs.Common.{◌≡◌, ◌++◌, take, flat_map}
use Rattle.mctpctl_decode.specs.ControlTexts.{type_text}
use Rattle.mctpctl_decode.proofs.control_text.push_types.Given as goal

abbrev pub invariant-loop-message_type : goal.invariant-loop-message_type
invariant-loop-message_type l =
    l.out.items ≡ l.initial.out.items ++ flat_map type_text (take l.message_type-index l.types)
