-- The numbers that words spell, computed, and the limit on their digits.
use Rattle.std.proofs.Common.{◌≡◌, pos, negsuc, [], codes, None, Some, refl}
use Rattle.line_words.specs.Numbers.{number_of, value_of}
use Rattle.line_words.specs.declared.numbers.TheConstants.{MAX_DIGITS}

most_digits : MAX_DIGITS ≡ 16
most_digits = refl

front_zeros : number_of 7 (codes "007") ≡ Some 7
front_zeros = refl

past_its_range : number_of 6 (codes "007") ≡ None
past_its_range = refl

sixteen_digits : number_of 9999999999999999 (codes "9999999999999999") ≡ Some 9999999999999999
sixteen_digits = refl

seventeen_digits : number_of 7 (codes "00000000000000007") ≡ None
seventeen_digits = refl

no_digit : number_of 7 [] ≡ None
no_digit = refl

a_sign : number_of 7 (codes "-7") ≡ None
a_sign = refl

a_plus : value_of (codes "+7") ≡ None
a_plus = refl

seven : value_of (codes "7") ≡ Some (pos 7)
seven = refl

below_zero : value_of (codes "-7") ≡ Some (negsuc 6)
below_zero = refl

zero_with_a_sign : value_of (codes "-0") ≡ Some (pos 0)
zero_with_a_sign = refl

sign_alone : value_of (codes "-") ≡ None
sign_alone = refl

two_signs : value_of (codes "--7") ≡ None
two_signs = refl

sixteen_digits_with_a_sign : value_of (codes "-9999999999999999") ≡ Some (negsuc 9999999999999998)
sixteen_digits_with_a_sign = refl
