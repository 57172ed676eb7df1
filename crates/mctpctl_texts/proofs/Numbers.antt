-- Every limit of the source, written a second time.
use Rattle.std.proofs.Common.{◌≡◌, refl}
use Rattle.mctpctl_texts.specs.declared.digits.TheConstants.{MAX_DIGITS}
use Rattle.mctpctl_texts.specs.declared.page.TheConstants.{MAX_PART, PAGE}

most_digits_of_a_number : MAX_DIGITS ≡ 20
most_digits_of_a_number = refl

most_bytes_of_a_part : MAX_PART ≡ 32
most_bytes_of_a_part = refl

bytes_of_a_page : PAGE ≡ 4_096
bytes_of_a_page = refl
