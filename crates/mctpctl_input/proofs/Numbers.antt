-- Every limit of the source and each number of its table of digits, written a second time.
use Rattle.std.proofs.Common.{◌≡◌, refl}
use Rattle.mctpctl_input.specs.declared.hex_digits.TheConstants.{MAX_BYTE, NO_DIGIT}
use Rattle.mctpctl_input.specs.declared.limits.TheConstants.{MAX_INPUT, MAX_DESCRIPTION, MAX_CAPTURE_LINE, MAX_DIVIDER}

most_bytes_of_input : MAX_INPUT ≡ 16777216
most_bytes_of_input = refl

most_bytes_of_a_description : MAX_DESCRIPTION ≡ 1048576
most_bytes_of_a_description = refl

most_bytes_of_a_capture_line : MAX_CAPTURE_LINE ≡ 4096
most_bytes_of_a_capture_line = refl

most_bytes_of_the_divider : MAX_DIVIDER ≡ 3
most_bytes_of_the_divider = refl

greatest_of_two_digits : MAX_BYTE ≡ 255
greatest_of_two_digits = refl

stands_for_no_digit : NO_DIGIT ≡ 256
stands_for_no_digit = refl
