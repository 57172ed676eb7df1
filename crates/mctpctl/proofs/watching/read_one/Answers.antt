-- What is described at the place is of what was found there.
use Rattle.std.proofs.Common.{◌++◌, ◌∙◌, ap, option_map}
use Rattle.std.specs.Prelude.{slice_get}
use Rattle.mctpctl.proofs.DescribedRows.{heard_at}
use Rattle.mctpctl.specs.AskedTexts.{status_of_answer}
use Rattle.mctpctl.specs.WalkedTexts.{rows_heard}
use Rattle.mctpctl.proofs.watching.read_one.Goals as goal

pub returns-clause-read : goal.returns-clause-read
returns-clause-read g c =
    let heard =
    heard_at c.args.walk.now c.args.place c.args.described.now c.index-described-place.result
    (option_map (λ bytes. bytes.now) c.answer-answer.result) c.requires.described c.requires.place
    c.index-described-place.is
    ∙ ap (rows_heard c.args.walk.now (slice_get c.args.walk.now.found c.args.place)) c.answer-answer.ensures in
    record {
      command = c.question_at-question.result;
      asks_for = c.question_at-question.ensures;
      number = c.in-Ok.asked.number;
      ended = c.in-Ok.asked.ended;
      asks = c.in-Ok.ensures.asked;
      rows_are = c.in-Ok-add_heard.ensures ∙ ap (λ rows. c.args.table.now ++ rows) heard;
      status_is = c.status_of_answer.ensures.value ∙ ap status_of_answer c.answer-answer.ensures;
    }
