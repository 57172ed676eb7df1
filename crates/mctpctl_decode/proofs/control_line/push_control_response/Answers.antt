-- What the response is, then the fields of its answer, and the end of the line.
use Rattle.std.proofs.Common.{◌≡◌, ◌++◌, ◌∷◌, [], codes}
use Rattle.mctpctl_decode.specs.ControlTexts.{answer_text, subject_text}
use Rattle.mctpctl_decode.proofs.AddedParts.{and_last}
use Rattle.mctpctl_decode.proofs.control_line.push_control_response.Goals as goal

pub returns : goal.returns
returns c =
    let r = c.args.response.now in
    let subject : c.push_subject.new.out.items ≡ c.args.out.now.items ++ subject_text (codes "  response ") r.id r.command = rw (← c.id.ensures.value, ← c.command.ensures) c.in_ok-push_subject.ensures in
    let fields : c.push_control_answer.new.out.items ≡ c.push_subject.new.out.items ++ answer_text r.command c.args.answer.now = rw (← c.command-2.ensures) c.in_ok-push_control_answer.ensures in
    let last = and_last c.write_text.result c.push_subject.new.out.items c.push_control_answer.new.out.items c.write_text.new.out.items (answer_text r.command c.args.answer.now) (10 ∷ []) fields c.write_text.ensures.written.text in
    and_last c.write_text.result c.args.out.now.items c.push_subject.new.out.items c.write_text.new.out.items (subject_text (codes "  response ") r.id r.command) (answer_text r.command c.args.answer.now ++ 10 ∷ []) subject last
