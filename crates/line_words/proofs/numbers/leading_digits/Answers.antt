-- One more digit: its value has room, and the digits so far are one more.
use Rattle.std.proofs.Common.{◌≡◌, ◌<◌, length, true, sym, ◌∙◌, arith, rules}
use Rattle.std.proofs.lemmas.Bool.Decides.{nat_tests}
use Rattle.std.proofs.lemmas.List.{get_or_default}
use Rattle.line_words.specs.Numbers.{is_digit}
use Rattle.line_words.proofs.DecimalPlaces.{digit_bounds, next_below, next_fits}
use Rattle.line_words.proofs.LeadingDigits.{NextDigit, next_digits, value_after}
use Rattle.line_words.proofs.numbers.leading_digits.Goals as goal

pub overflow_mul-value : goal.overflow_mul-value
overflow_mul-value c = omega (arith, next_fits c.loop-count.value c.loop-count.count c.loop-count.invariant.below c.loop-count-test.true)

pub overflow_add-value : goal.overflow_add-value
overflow_add-value c =
    let is : is_digit c.in-Some.digit.now ≡ true = sym c.is_ascii_digit.ensures.value ∙ c.if-is_ascii_digit.true in
    let bounds = digit_bounds c.in-Some.digit.now is in
    let small : c.from.result < 10 = omega (arith, c.from.ensures, bounds.0, bounds.1) in
    omega (arith, next_fits c.loop-count.value c.loop-count.count c.loop-count.invariant.below c.loop-count-test.true)

pub loop-count-preserved : goal.loop-count-preserved
loop-count-preserved c =
    let text = c.args.text.now in
    let count = c.loop-count.count in
    let byte = c.in-Some.digit.now in
    let is : is_digit byte ≡ true = sym c.is_ascii_digit.ensures.value ∙ c.if-is_ascii_digit.true in
    let bounds = digit_bounds byte is in
    let small : c.from.result < 10 = omega (arith, c.from.ensures, bounds.0, bounds.1) in
    let found = c.in-Some.ensures.lookup in
    let within : count < length text = search (rules, nat_tests, found.0) in
    let next : NextDigit text count byte c.from.result = record { within = within; here = found.1 ∙ get_or_default text count byte 0 within; passes = is; is = c.from.ensures } in
    record {
      number = value_after text count byte c.from.result c.loop-count.value next c.loop-count.invariant.number;
      below = next_below c.loop-count.value c.from.result count c.loop-count.invariant.below small;
      digits = next_digits text count byte c.from.result next c.loop-count.invariant.digits;
      few = omega (arith, c.loop-count-test.true);
      within = omega (arith, within);
    }
