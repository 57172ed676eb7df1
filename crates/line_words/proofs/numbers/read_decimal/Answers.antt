-- A number has so few digits that its value fits.
use Rattle.std.proofs.Common.{◌≡◌, ◌<◌, ◌≤◌, ◌+◌, ◌&&◌, true, drop, get_or, sym, ap, ◌∙◌, arith}
use Rattle.std.specs.List.{list_all}
use Rattle.line_words.specs.Numbers.{is_digit}
use Rattle.line_words.specs.declared.numbers.TheConstants.{MAX_DIGITS}
use Rattle.line_words.proofs.DecimalPlaces.{all_digits, at_most_all, digit_bounds, next_digit, next_below, next_fits}
use Rattle.line_words.proofs.numbers.read_decimal.Goals as goal

pub overflow_mul-value : goal.overflow_mul-value
overflow_mul-value c =
    let few : c.loop-digit.digit-index < MAX_DIGITS = omega (arith, c.loop-digit-test.true, c.if-word-gt-MAX_DIGITS.false) in
    omega (arith, next_fits c.loop-digit.value c.loop-digit.digit-index c.loop-digit.invariant.below few)

pub overflow_add-value : goal.overflow_add-value
overflow_add-value c =
    let few : c.loop-digit.digit-index < MAX_DIGITS = omega (arith, c.loop-digit-test.true, c.if-word-gt-MAX_DIGITS.false) in
    let is : is_digit (get_or c.args.word.now c.loop-digit.digit-index 0) ≡ true = sym c.is_ascii_digit.ensures.value ∙ c.if-not-is_ascii_digit.false in
    let bounds = digit_bounds (get_or c.args.word.now c.loop-digit.digit-index 0) is in
    let small : c.from.result < 10 = omega (arith, c.from.ensures, bounds.0, bounds.1) in
    omega (arith, next_fits c.loop-digit.value c.loop-digit.digit-index c.loop-digit.invariant.below few)

pub loop-digit-preserved : goal.loop-digit-preserved
loop-digit-preserved c =
    let word = c.args.word.now in
    let index = c.loop-digit.digit-index in
    let is : is_digit (get_or word index 0) ≡ true = sym c.is_ascii_digit.ensures.value ∙ c.if-not-is_ascii_digit.false in
    let bounds = digit_bounds (get_or word index 0) is in
    let small : c.from.result < 10 = omega (arith, c.from.ensures, bounds.0, bounds.1) in
    record {
      number = next_digit word index c.loop-digit.value c.from.result _ c.loop-digit-test.true c.from.ensures c.loop-digit.invariant.number;
      below = next_below c.loop-digit.value c.from.result index c.loop-digit.invariant.below small;
      digits = c.loop-digit.invariant.digits ∙ all_digits word index c.loop-digit-test.true ∙ ap (λ t. t && list_all is_digit (drop (index + 1) word)) is;
    }

pub returns-clause-range : goal.returns-clause-range
returns-clause-range c =
    let few : c.loop-digit.digit-index ≤ MAX_DIGITS = omega (arith, c.loop-digit.auto.digit-index-end, c.if-word-gt-MAX_DIGITS.false) in
    at_most_all c.loop-digit.value c.loop-digit.digit-index c.loop-digit.invariant.below few
