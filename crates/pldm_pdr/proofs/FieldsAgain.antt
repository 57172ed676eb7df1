-- Each field in its range is read again from its bytes, whatever follows it.
use Rattle.std.proofs.Common.{◌≡◌, ℕ, ℤ, ◌^◌, ◌<◌, Bool, true, false, ltb, List, ◌++◌, length, Ok, refl, ap, arith, w8, FitsSigned}
use Rattle.std.proofs.lemmas.Int.{to_z-of_z}
use Rattle.std.proofs.lemmas.Bool.{le-ltb, eq-eqb}
use Rattle.std.proofs.lemmas.List.{length-append, drop_at}
use Rattle.byteorder.specs.Endian.{little_number, little_bytes}
use Rattle.byteorder.specs.Numbers.{little_number-reads_back, little_from-append, length-bytes_low_first}
use Rattle.pldm_wire.specs.Sizes.{width, size_code, Fits}
use Rattle.pldm_wire.specs.Numbers.{sized}
use Rattle.pldm_wire.specs.declared.size.Size.{Size}
use Rattle.pldm_wire.specs.declared.size.Size.TheVariants.{Uint8, Sint8, Uint16, Sint16, Uint32, Sint32}
use Rattle.pldm_wire.proofs.WrittenNumbers.{stands_sized}
use Rattle.pldm_pdr.specs.declared.fault.RecordFault.{RecordFault}
use Rattle.pldm_pdr.specs.declared.range_format.RangeFormat.{RangeFormat}
use Rattle.pldm_pdr.specs.declared.range_format.RangeFormat.TheVariants.{Number, Real32}
use Rattle.pldm_pdr.specs.Fields.{byte, byte_at, signed_byte, signed_byte_at, flag, flag_at, number_at, sized_bytes, sized_at, size_at, constant_at}
use Rattle.pldm_pdr.specs.RangeFormats.{format_code, format_at}

pub byte_again : (b : ℕ) (rest : List ℕ) → byte_at (byte b ++ rest) ≡ Ok (b, rest)
unfolding byte_at
byte_again b rest = refl

pub signed_byte_again : (z : ℤ) (rest : List ℕ) → FitsSigned w8 z → signed_byte_at (signed_byte z ++ rest) ≡ Ok (z, rest)
unfolding signed_byte_at
signed_byte_again z rest fits = ap (λ (v : ℤ). Ok (v, rest)) (to_z-of_z w8 z fits)

pub flag_again : (is_set : Bool) (rest : List ℕ) → flag_at (flag is_set ++ rest) ≡ Ok (is_set, rest)
unfolding flag_at
flag_again true rest = refl
flag_again false rest = refl

pub number_again : (n x : ℕ) (rest : List ℕ) → x < 256 ^ n → number_at n (little_bytes n x ++ rest) ≡ Ok (x, rest)
unfolding number_at
number_again n x rest below =
    let count = length-bytes_low_first 0 n x in
    let long : ltb (length (little_bytes n x ++ rest)) n ≡ false = le-ltb _ _ (omega (arith, length-append (little_bytes n x) rest)) in
    rw (long, little_number-reads_back n x rest below, drop_at (little_bytes n x) rest n count) refl

pub sized_again : (size : Size) (value : ℤ) (rest : List ℕ) → Fits size value → sized_at size (sized_bytes size value ++ rest) ≡ Ok (value, rest)
unfolding sized_at
sized_again size value rest fits =
    let stands = stands_sized (sized size value) fits in
    let count : length (sized_bytes size value) ≡ width size = stands.0 in
    let long : ltb (length (sized_bytes size value ++ rest)) (width size) ≡ false = le-ltb _ _ (omega (arith, length-append (sized_bytes size value) rest)) in
    let first : little_number (width size) (sized_bytes size value ++ rest) ≡ little_number (width size) (sized_bytes size value) = little_from-append (width size) (sized_bytes size value) rest (omega arith) in
    rw (long, first, ← stands.1, drop_at (sized_bytes size value) rest (width size) count) refl

pub size_again : (size : Size) (rest : List ℕ) → size_at (byte (size_code size) ++ rest) ≡ Ok (size, rest)
unfolding size_at
size_again Uint8 rest = refl
size_again Sint8 rest = refl
size_again Uint16 rest = refl
size_again Sint16 rest = refl
size_again Uint32 rest = refl
size_again Sint32 rest = refl

pub format_again : (format : RangeFormat) (rest : List ℕ) → format_at (byte (format_code format) ++ rest) ≡ Ok (format, rest)
unfolding format_at
format_again (Number Uint8) rest = refl
format_again (Number Sint8) rest = refl
format_again (Number Uint16) rest = refl
format_again (Number Sint16) rest = refl
format_again (Number Uint32) rest = refl
format_again (Number Sint32) rest = refl
format_again Real32 rest = refl

pub constant_again : (fault : RecordFault) (value : ℕ) (rest : List ℕ) → constant_at fault value (byte value ++ rest) ≡ Ok rest
unfolding constant_at
constant_again fault value rest = rw (eq-eqb value value refl) refl
