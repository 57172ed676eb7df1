-- Each field that is read was taken from the front of the bytes, and is in its range.
use Rattle.std.proofs.Common.{◌≡◌, ℕ, ℤ, ◌^◌, ◌<◌, ◌≤◌, ◌==◌, Bool, true, false, ltb, List, [], ◌∷◌, length, take, drop, Option, Some, None, Ok, Err, if◌then◌else◌, refl, sym, ap, subst, ◌∙◌, eqb-true, ltb-false, w8, FitsSigned}
use Rattle.std.proofs.Math.Facts.{sfits_to_z, Fits-bits}
use Rattle.std.proofs.lemmas.Int.{of_z-to_z}
use Rattle.std.proofs.lemmas.List.{take-append-drop}
use Rattle.std.specs.Int.{cast_signed}
use Rattle.byteorder.specs.Endian.{little_number, little_bytes}
use Rattle.byteorder.specs.Numbers.{little_from-lt}
use Rattle.pldm_wire.specs.Sizes.{width, size_of, size_code, Fits}
use Rattle.pldm_wire.specs.Numbers.{value_of}
use Rattle.pldm_wire.specs.declared.size.Size.{Size}
use Rattle.pldm_wire.proofs.SizeCodes.{code_from_size}
use Rattle.pldm_wire.proofs.NumberRanges.{value_fits}
use Rattle.pldm_pdr.specs.declared.fault.RecordFault.{RecordFault}
use Rattle.pldm_pdr.specs.declared.fault.RecordFault.TheVariants.{Short, Flag}
use Rattle.pldm_pdr.specs.declared.range_format.RangeFormat.{RangeFormat}
use Rattle.pldm_pdr.specs.declared.range_format.RangeFormat.TheVariants.{Real32}
use Rattle.pldm_pdr.specs.Fields.{byte, byte_at, signed_byte, signed_byte_at, flag, flag_at, number_at, sized_bytes, sized_at, size_or, size_at, constant_at}
use Rattle.pldm_pdr.specs.RangeFormats.{format_code, format_or, format_at}
use Rattle.pldm_pdr.proofs.Steps.{IsBytes, bytes_dropped, bytes_after, passed, allowed, ok_is, Takes}
use Rattle.pldm_pdr.proofs.Numbers.{written_again, low_again}

front : (b : ℕ) (rest : List ℕ) → IsBytes (b ∷ rest) → Takes (b ∷ rest) (byte b) rest
front b rest small = record { parts = refl; small = bytes_after b rest small }

pub byte_taken : (bytes : List ℕ) → IsBytes bytes → (x : ℕ × List ℕ) → byte_at bytes ≡ Ok x → Takes bytes (byte x.0) x.1 × (x.0 < 2 ^ 8)
unfolding byte_at
byte_taken [] small x e = absurd cc
byte_taken (b ∷ rest) small x e =
    subst (λ (y : ℕ × List ℕ). Takes (b ∷ rest) (byte y.0) y.1 × (y.0 < 2 ^ 8)) (ok_is e) (front b rest small, small 0)

pub signed_byte_taken : (bytes : List ℕ) → IsBytes bytes → (x : ℤ × List ℕ) → signed_byte_at bytes ≡ Ok x → Takes bytes (signed_byte x.0) x.1 × FitsSigned w8 x.0
unfolding signed_byte_at
signed_byte_taken [] small x e = absurd cc
signed_byte_taken (b ∷ rest) small x e =
    let again : Takes (b ∷ rest) (signed_byte (cast_signed w8 b)) rest = rw (of_z-to_z w8 b (small 0)) (front b rest small) in
    let low : b < 2 ^ 8 = small 0 in
    let fits : FitsSigned w8 (cast_signed w8 b) = sfits_to_z {w = w8} {n = b} (Fits-bits 8 tt low) in
    subst (λ (y : ℤ × List ℕ). Takes (b ∷ rest) (signed_byte y.0) y.1 × FitsSigned w8 y.0) (ok_is e) (again, sfits_to_z {w = w8} {n = b} (Fits-bits 8 tt low))

flag_test : (zero_is one_is : Bool) (b : ℕ) (rest : List ℕ) (x : Bool × List ℕ) → (b == 0) ≡ zero_is → (b == 1) ≡ one_is
    → (if zero_is then Ok (false, rest) else if one_is then Ok (true, rest) else Err Flag) ≡ Ok x → (byte b ≡ flag x.0) × (rest ≡ x.1)
flag_test true one_is b rest x z o e =
    subst (λ (y : Bool × List ℕ). (byte b ≡ flag y.0) × (rest ≡ y.1)) (ok_is e) (ap byte (eqb-true b 0 z), refl)
flag_test false true b rest x z o e =
    subst (λ (y : Bool × List ℕ). (byte b ≡ flag y.0) × (rest ≡ y.1)) (ok_is e) (ap byte (eqb-true b 1 o), refl)
flag_test false false b rest x z o e = absurd cc

pub flag_taken : (bytes : List ℕ) → IsBytes bytes → (x : Bool × List ℕ) → flag_at bytes ≡ Ok x → Takes bytes (flag x.0) x.1
unfolding flag_at
flag_taken [] small x e = absurd cc
flag_taken (b ∷ rest) small x e =
    let is = flag_test (b == 0) (b == 1) b rest x refl refl e in
    subst (λ (r : List ℕ). Takes (b ∷ rest) (flag x.0) r) is.1 (subst (λ (t : List ℕ). Takes (b ∷ rest) t rest) is.0 (front b rest small))

pub number_taken : (n : ℕ) (bytes : List ℕ) → IsBytes bytes → (x : ℕ × List ℕ) → number_at n bytes ≡ Ok x → Takes bytes (little_bytes n x.0) x.1 × (x.0 < 256 ^ n)
unfolding number_at
number_taken n bytes small x e =
    let long = passed (ltb (length bytes) n) Short (little_number n bytes, drop n bytes) x e in
    let enough : n ≤ length bytes = ltb-false _ _ long.0 in
    let whole : Takes bytes (little_bytes n (little_number n bytes)) (drop n bytes) = record {
      parts = rw (written_again n bytes small enough) (sym (take-append-drop n bytes));
      small = bytes_dropped n bytes small;
    } in
    subst (λ (y : ℕ × List ℕ). Takes bytes (little_bytes n y.0) y.1 × (y.0 < 256 ^ n)) long.1 (whole, little_from-lt 0 n bytes small)

pub sized_taken : (size : Size) (bytes : List ℕ) → IsBytes bytes → (x : ℤ × List ℕ) → sized_at size bytes ≡ Ok x → Takes bytes (sized_bytes size x.0) x.1 × Fits size x.0
unfolding sized_at
sized_taken size bytes small x e =
    let n = little_number (width size) bytes in
    let long = passed (ltb (length bytes) (width size)) Short (value_of size n, drop (width size) bytes) x e in
    let enough : width size ≤ length bytes = ltb-false _ _ long.0 in
    let below : n < 256 ^ width size = little_from-lt 0 (width size) bytes small in
    let again : sized_bytes size (value_of size n) ≡ take (width size) bytes = ap (little_bytes (width size)) (low_again size n below) ∙ written_again (width size) bytes small enough in
    let whole : Takes bytes (sized_bytes size (value_of size n)) (drop (width size) bytes) = record {
      parts = rw again (sym (take-append-drop (width size) bytes));
      small = bytes_dropped (width size) bytes small;
    } in
    subst (λ (y : ℤ × List ℕ). Takes bytes (sized_bytes size y.0) y.1 × Fits size y.0) long.1 (whole, value_fits size n below)

size_test : (found : Option Size) (b : ℕ) (rest : List ℕ) (x : Size × List ℕ) → size_of b ≡ found → size_or found rest ≡ Ok x → (byte b ≡ byte (size_code x.0)) × (rest ≡ x.1)
size_test None b rest x is e = absurd cc
size_test (Some size) b rest x is e =
    subst (λ (y : Size × List ℕ). (byte b ≡ byte (size_code y.0)) × (rest ≡ y.1)) (ok_is e) (ap byte (code_from_size b size is), refl)

pub size_taken : (bytes : List ℕ) → IsBytes bytes → (x : Size × List ℕ) → size_at bytes ≡ Ok x → Takes bytes (byte (size_code x.0)) x.1
unfolding size_at
size_taken [] small x e = absurd cc
size_taken (b ∷ rest) small x e =
    let is = size_test (size_of b) b rest x refl e in
    subst (λ (r : List ℕ). Takes (b ∷ rest) (byte (size_code x.0)) r) is.1 (subst (λ (t : List ℕ). Takes (b ∷ rest) t rest) is.0 (front b rest small))

format_test : (found : Option Size) (b : ℕ) (rest : List ℕ) (x : RangeFormat × List ℕ) → size_of b ≡ found → format_or found rest ≡ Ok x → (byte b ≡ byte (format_code x.0)) × (rest ≡ x.1)
format_test None b rest x is e = absurd cc
format_test (Some size) b rest x is e =
    subst (λ (y : RangeFormat × List ℕ). (byte b ≡ byte (format_code y.0)) × (rest ≡ y.1)) (ok_is e) (ap byte (code_from_size b size is), refl)

format_choice : (test : Bool) (b : ℕ) (rest : List ℕ) (x : RangeFormat × List ℕ) → (b == 6) ≡ test → (if test then Ok (Real32, rest) else format_or (size_of b) rest) ≡ Ok x → (byte b ≡ byte (format_code x.0)) × (rest ≡ x.1)
format_choice true b rest x is e =
    subst (λ (y : RangeFormat × List ℕ). (byte b ≡ byte (format_code y.0)) × (rest ≡ y.1)) (ok_is e) (ap byte (eqb-true b 6 is), refl)
format_choice false b rest x is e = format_test (size_of b) b rest x refl e

pub format_taken : (bytes : List ℕ) → IsBytes bytes → (x : RangeFormat × List ℕ) → format_at bytes ≡ Ok x → Takes bytes (byte (format_code x.0)) x.1
unfolding format_at
format_taken [] small x e = absurd cc
format_taken (b ∷ rest) small x e =
    let is = format_choice (b == 6) b rest x refl e in
    subst (λ (r : List ℕ). Takes (b ∷ rest) (byte (format_code x.0)) r) is.1 (subst (λ (t : List ℕ). Takes (b ∷ rest) t rest) is.0 (front b rest small))

pub constant_taken : (fault : RecordFault) (value : ℕ) (bytes : List ℕ) → IsBytes bytes → (x : List ℕ) → constant_at fault value bytes ≡ Ok x → Takes bytes (byte value) x
unfolding constant_at
constant_taken fault value [] small x e = absurd cc
constant_taken fault value (b ∷ rest) small x e =
    let is = allowed (b == value) fault rest x e in
    let same : b ≡ value = eqb-true b value is.0 in
    subst (λ (r : List ℕ). Takes (b ∷ rest) (byte value) r) is.1 (subst (λ (v : ℕ). Takes (b ∷ rest) (byte v) rest) same (front b rest small))
