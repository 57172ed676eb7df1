-- The digits so far and those to come make the number; those so far are digits.
use Rattle.std.proofs.Common.{◌≡◌, ◌<◌, ◌+◌, ◌*◌, ◌^◌, length, drop}
use Rattle.std.specs.List.{list_all}
use Rattle.line_words.specs.Numbers.{decimal_value, is_digit}
use Rattle.line_words.proofs.numbers.read_decimal.Given as goal

abbrev pub invariant-loop-digit : goal.invariant-loop-digit
invariant-loop-digit l = record {
  number : decimal_value l.word ≡ l.value * 10 ^ length (drop l.digit-index l.word) + decimal_value (drop l.digit-index l.word);
  below : l.value < 10 ^ l.digit-index;
  digits : list_all is_digit l.word ≡ list_all is_digit (drop l.digit-index l.word);
}
