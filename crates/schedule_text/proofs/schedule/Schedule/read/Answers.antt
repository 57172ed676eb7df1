-- Line by line, the schedule is that of the lines so far.
use Rattle.std.proofs.Common.{◌+◌, [], ◌∷◌, ◌++◌, Ok, refl, sym, ap, ◌∙◌, arith, append_assoc, length-append, rules}
use Rattle.line_words.specs.TextLines.{lines_of}
use Rattle.schedule_text.specs.Schedules.{none_spelled, spelled_from, spelled_then}
use Rattle.schedule_text.proofs.LinesReached.{one_more, reached}
use Rattle.schedule_text.proofs.ReadLines.{at_first}
use Rattle.schedule_text.proofs.schedule.Schedule.read.Goals as goal

pub loop-line-init : goal.loop-line-init
loop-line-init c = record {
  read = at_first c.args.text.now ∙ ap (λ schedule. spelled_from 1 schedule (lines_of c.args.text.now)) (sym c.new-schedule.ensures);
  size = omega arith;
  done = [];
  lines = refl;
  good = ap Ok (sym c.new-schedule.ensures);
  number = refl;
}

pub loop-line-preserved : goal.loop-line-preserved
loop-line-preserved c =
    let i = c.loop-line.invariant in
    let line = c.in-Some.line.now in
    let after = lines_of c.in-Some.after.now in
    let parts = c.in-Some.ensures.some in
    let long = c.in-Some.ensures.len in
    let ok = c.in_ok-add_line.ensures.ok in
    let size = i.size in
    let number = i.number in
    let more = length-append i.done (line ∷ []) in
    record {
      read = i.read ∙ ap (spelled_from c.loop-line.number c.loop-line.schedule) parts
          ∙ ap (λ r. spelled_then c.loop-line.number r (λ spelled. spelled_from (c.loop-line.number + 1) spelled after)) ok;
      size = omega (arith, size, long);
      done = i.done ++ line ∷ [];
      lines = i.lines ∙ ap (λ lines. i.done ++ lines) parts ∙ sym (append_assoc i.done (line ∷ []) after);
      good = one_more 1 none_spelled i.done line c.loop-line.schedule c.add_line.new.self i.good ok;
      number = omega (arith, number, more);
    }

pub returns-in_err-add_line-clause-reached : goal.returns-in_err-add_line-clause-reached
returns-in_err-add_line-clause-reached c =
    let i = c.loop-line.invariant in
    let all = i.lines ∙ ap (λ lines. i.done ++ lines) c.in-Some.ensures.some in
    let at = reached (lines_of c.args.text.now) i.done (lines_of c.in-Some.after.now) c.in-Some.line.now c.loop-line.number c.loop-line.schedule all i.number i.good in
    search (rules, at, c.from_residual.ensures, c.in_err-add_line.ensures.err)

pub returns-in_err-add_line-2-clause-reached : goal.returns-in_err-add_line-2-clause-reached
returns-in_err-add_line-2-clause-reached c =
    let i = c.loop-line.invariant in
    let all = i.lines ∙ ap (λ lines. i.done ++ lines) c.in_default.ensures.none in
    let at = reached (lines_of c.args.text.now) i.done [] c.loop-line.rest.now c.loop-line.number c.loop-line.schedule all i.number i.good in
    search (rules, at, c.from_residual-in_err-add_line-2.ensures, c.in_err-add_line-2.ensures.err)
