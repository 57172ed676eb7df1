-- What is read at a size is the value that stands there, and fits the size.
use Rattle.std.proofs.Common.{◌≡◌, ℕ, ◌<◌, ◌^◌, ℤ, pos, ◌-ℤ◌, true, false, ltb, List, slice_index, drop, refl, arith, ltb-true, ltb-false, FitsSigned, w64, to_z, of_z}
use Rattle.std.proofs.lemmas.Bool.{cond_both}
use Rattle.std.proofs.lemmas.Int.{ints, to_z-of_z}
use Rattle.byteorder.specs.Endian.{little_from, little_number, twos_complement}
use Rattle.byteorder.specs.Numbers.{little_from-lt}
use Rattle.pldm_wire.specs.Sizes.{width, is_signed, Fits}
use Rattle.pldm_wire.specs.Numbers.{value_of}
use Rattle.pldm_wire.specs.declared.size.Size.{Size}
use Rattle.pldm_wire.specs.declared.size.Size.TheVariants.{Uint8, Sint8, Uint16, Sint16, Uint32, Sint32}
use Rattle.pldm_wire.proofs.Placed.{little_from_drop}

-- the value of an unsigned number of the size's bytes
pub value_fits : (size : Size) (n : ℕ) → n < 256 ^ width size → Fits size (value_of size n)
value_fits Uint8 n h = (omega (arith, ints), omega (arith, ints))
value_fits Sint8 n h =
    cond_both (ltb n (2 ^ 7)) (pos n) (pos n -ℤ pos (2 ^ 8)) (Fits Sint8)
    (λ t. let low = ltb-true _ _ t in (omega (arith, ints), omega (arith, ints)))
    (λ t. let high = ltb-false _ _ t in (omega (arith, ints), omega (arith, ints)))
value_fits Uint16 n h = (omega (arith, ints), omega (arith, ints))
value_fits Sint16 n h =
    cond_both (ltb n (2 ^ 15)) (pos n) (pos n -ℤ pos (2 ^ 16)) (Fits Sint16)
    (λ t. let low = ltb-true _ _ t in (omega (arith, ints), omega (arith, ints)))
    (λ t. let high = ltb-false _ _ t in (omega (arith, ints), omega (arith, ints)))
value_fits Uint32 n h = (omega (arith, ints), omega (arith, ints))
value_fits Sint32 n h =
    cond_both (ltb n (2 ^ 31)) (pos n) (pos n -ℤ pos (2 ^ 32)) (Fits Sint32)
    (λ t. let low = ltb-true _ _ t in (omega (arith, ints), omega (arith, ints)))
    (λ t. let high = ltb-false _ _ t in (omega (arith, ints), omega (arith, ints)))

-- a number of any size fits 64 bits
pub fits_word : (size : Size) (x : ℤ) → Fits size x → FitsSigned w64 x
fits_word Uint8 x h = omega (arith, ints)
fits_word Sint8 x h = omega (arith, ints)
fits_word Uint16 x h = omega (arith, ints)
fits_word Sint16 x h = omega (arith, ints)
fits_word Uint32 x h = omega (arith, ints)
fits_word Sint32 x h = omega (arith, ints)

-- a signed number that was read, with its width
pub signed_value : (size : Size) (w place : ℕ) (bytes rest : List ℕ) (x : ℤ) → w ≡ width size → rest ≡ drop place bytes → is_signed size ≡ true
    → x ≡ twos_complement w (little_number w rest) → x ≡ value_of size (little_from place (width size) bytes)
signed_value size w place bytes rest x w_is rest_is signed read =
    rw (read, rest_is, w_is, signed, little_from_drop place (width size) bytes) refl

-- an unsigned one
pub unsigned_value : (size : Size) (w place : ℕ) (bytes rest : List ℕ) (n : ℕ) → w ≡ width size → rest ≡ drop place bytes → is_signed size ≡ false
    → n ≡ little_number w rest → pos n ≡ value_of size (little_from place (width size) bytes)
unsigned_value size w place bytes rest n w_is rest_is unsigned read =
    rw (read, rest_is, w_is, unsigned, little_from_drop place (width size) bytes) refl

-- the value at a place fits
pub placed_fits : (size : Size) (place : ℕ) (bytes : List ℕ) → ((i : ℕ) → slice_index bytes i < 256)
    → Fits size (value_of size (little_from place (width size) bytes))
placed_fits size place bytes small = value_fits size _ (little_from-lt place (width size) bytes small)

-- and does so once it was passed on
pub passed_fits : (size : Size) (x v : ℤ) → x ≡ v → Fits size v → Fits size (to_z w64 (of_z w64 x))
passed_fits size x v is fits =
    let word : FitsSigned w64 v = fits_word size v fits in
    rw (is, to_z-of_z w64 v word) fits

pub cast_value : (size : Size) (n : ℕ) (v : ℤ) → pos n ≡ v → Fits size v → to_z w64 n ≡ v
cast_value size n v is fits =
    let word : FitsSigned w64 (pos n) = rw is (fits_word size v fits) in
    omega (arith, ints)
