-- The text so far is that of the fields so far.
use Rattle.std.proofs.Common.{◌≡◌, ◌++◌, take, flat_map}
use Rattle.mctpctl_decode.specs.AnswerTexts.{sensor_field_text}
use Rattle.mctpctl_decode.proofs.answer_text.push_sensor_fields.Given as goal

abbrev pub invariant-loop-field : goal.invariant-loop-field
invariant-loop-field l = l.out.items ≡ l.initial.out.items ++ flat_map sensor_field_text (take l.field-index l.fields)
