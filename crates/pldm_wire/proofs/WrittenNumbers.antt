-- What a number is written as has the number in it.
use Rattle.std.proofs.Common.{◌≡◌, ℕ, ◌^◌, ◌<◌, ℤ, pos, negsuc, ltb, [], sym, ◌∙◌, ap, arith, ltb-true, ltb-false, w64}
use Rattle.std.proofs.lemmas.Bool.{cond_both}
use Rattle.std.proofs.lemmas.Int.{ints}
use Rattle.std.proofs.lemmas.List.{append-nil}
use Rattle.byteorder.specs.Endian.{little_number, little_bytes, low_bytes}
use Rattle.byteorder.specs.Numbers.{length-bytes_low_first, little_number-reads_back}
use Rattle.pldm_wire.specs.Sizes.{width, Fits}
use Rattle.pldm_wire.specs.Numbers.{SizedNumber, IsNumber, Stands, StandsSized, value_of, number_bytes}
use Rattle.pldm_wire.specs.declared.size.Size.{Size}
use Rattle.pldm_wire.specs.declared.size.Size.TheVariants.{Uint8, Sint8, Uint16, Sint16, Uint32, Sint32}

read_back : (n x : ℕ) → x < 256 ^ n → little_number n (little_bytes n x) ≡ x
read_back n x h = rw append-nil at (little_number-reads_back n x [] h)

-- an unsigned number stands in its bytes
pub stands : (n x : ℕ) → x < 256 ^ n → Stands n x (little_bytes n x)
stands n x h = (length-bytes_low_first 0 n x, sym (read_back n x h))

-- the lowest bytes of a number of the size are its value again
low_value : (size : Size) (x : ℤ) → Fits size x → (low_bytes w64 (width size) x < 256 ^ width size) × (x ≡ value_of size (low_bytes w64 (width size) x))
low_value Uint8 (pos n) h = (omega (arith, ints), omega (arith, ints))
low_value Uint8 (negsuc n) h = absurd (omega (arith, ints))
low_value Sint8 (pos n) h = (
  omega (arith, ints),
  cond_both (ltb (low_bytes w64 1 (pos n)) (2 ^ 7)) _ _ (λ v. pos n ≡ v)
      (λ t. omega (arith, ints)) (λ t. absurd (omega (arith, ints, ltb-false _ _ t))),
)
low_value Sint8 (negsuc n) h = (
  omega (arith, ints),
  cond_both (ltb (low_bytes w64 1 (negsuc n)) (2 ^ 7)) _ _ (λ v. negsuc n ≡ v)
      (λ t. absurd (omega (arith, ints, ltb-true _ _ t))) (λ t. omega (arith, ints)),
)
low_value Uint16 (pos n) h = (omega (arith, ints), omega (arith, ints))
low_value Uint16 (negsuc n) h = absurd (omega (arith, ints))
low_value Sint16 (pos n) h = (
  omega (arith, ints),
  cond_both (ltb (low_bytes w64 2 (pos n)) (2 ^ 15)) _ _ (λ v. pos n ≡ v)
      (λ t. omega (arith, ints)) (λ t. absurd (omega (arith, ints, ltb-false _ _ t))),
)
low_value Sint16 (negsuc n) h = (
  omega (arith, ints),
  cond_both (ltb (low_bytes w64 2 (negsuc n)) (2 ^ 15)) _ _ (λ v. negsuc n ≡ v)
      (λ t. absurd (omega (arith, ints, ltb-true _ _ t))) (λ t. omega (arith, ints)),
)
low_value Uint32 (pos n) h = (omega (arith, ints), omega (arith, ints))
low_value Uint32 (negsuc n) h = absurd (omega (arith, ints))
low_value Sint32 (pos n) h = (
  omega (arith, ints),
  cond_both (ltb (low_bytes w64 4 (pos n)) (2 ^ 31)) _ _ (λ v. pos n ≡ v)
      (λ t. omega (arith, ints)) (λ t. absurd (omega (arith, ints, ltb-false _ _ t))),
)
low_value Sint32 (negsuc n) h = (
  omega (arith, ints),
  cond_both (ltb (low_bytes w64 4 (negsuc n)) (2 ^ 31)) _ _ (λ v. negsuc n ≡ v)
      (λ t. absurd (omega (arith, ints, ltb-true _ _ t))) (λ t. omega (arith, ints)),
)

-- a number stands in the bytes of its size
pub stands_sized : (number : SizedNumber) → IsNumber number → StandsSized number (number_bytes number)
stands_sized number h =
    let low = low_value number.size number.value h in (
      length-bytes_low_first 0 (width number.size) (low_bytes w64 (width number.size) number.value),
      low.1 ∙ ap (value_of number.size) (sym (read_back (width number.size) (low_bytes w64 (width number.size) number.value) low.0)),
    )
