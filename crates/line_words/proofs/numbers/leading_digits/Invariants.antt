-- The value is that of the digits so far, and they are digits.
use Rattle.std.proofs.Common.{◌≡◌, ◌≤◌, ◌<◌, ◌^◌, ◌-◌, true, length, take}
use Rattle.std.specs.List.{list_all}
use Rattle.line_words.specs.Numbers.{decimal_value, is_digit}
use Rattle.line_words.specs.declared.numbers.TheConstants.{MAX_DIGITS}
use Rattle.line_words.proofs.numbers.leading_digits.Given as goal

abbrev pub invariant-loop-count : goal.invariant-loop-count
invariant-loop-count l = record {
  number : l.value ≡ decimal_value (take l.count l.text);
  below : l.value < 10 ^ l.count;
  digits : list_all is_digit (take l.count l.text) ≡ true;
  few : l.count ≤ MAX_DIGITS;
  within : l.count ≤ length l.text;
}

abbrev pub decreases-loop-count : goal.decreases-loop-count
decreases-loop-count l = MAX_DIGITS - l.count
