-- The digits end where a space or the end of the text comes after them.
use Rattle.std.proofs.Common.{◌∙◌, sym}
use Rattle.line_words.proofs.LeadingDigits.{ends_at, nothing_here, space_here, spells}
use Rattle.line_words.proofs.words.leading_number.Goals.{in-Some, in-None}
use Rattle.line_words.proofs.words.leading_number.Goals as goal

pub returns-then-ends-clause-number : goal.returns-then-ends-clause-number
returns-then-ends-clause-number c =
    let led = c.leading_digits-number.ensures in
    spells c.args.text.now c.leading_digits-number.result.1 c.leading_digits-number.result.0 c.if-end-gt0.true led.few
    led.within led.digits led.value

pub returns-then-ends-clause-end : goal.returns-then-ends-clause-end
returns-then-ends-clause-end c =
    let text = c.args.text.now in
    let end = c.leading_digits-number.result.1 in
    let led = c.leading_digits-number.ensures in
    ends_at text end led.digits led.within (elim c.match-get.branch [
      | in-Some w ↦ space_here text end w.in-Some.byte.now (sym w.ends-is ∙ c.if-ends.true) w.in-Some.ensures.lookup.1
      | in-None w ↦ nothing_here text end w.in-None.ensures.lookup.0
    ])
