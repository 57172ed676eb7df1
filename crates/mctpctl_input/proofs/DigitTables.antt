-- A text that is looked up in a table of digits is read as `hex` reads it.
use Rattle.std.proofs.Common.{◌≡◌, ◌<◌, ◌≤◌, ◌+◌, ◌*◌, ◌/◌, ◌%◌, ◌⊎◌, inl, inr, ℕ, Bool, true, false, List, [], ◌∷◌, length, take, drop, slice_index, slice_set, Option, None, Some, Result, Ok, Err, MatchResult, refl, sym, ap, ◌∙◌, zero-add, arith}
use Rattle.std.specs.Ordering.{nat_cmp, ord_max}
use Rattle.std.proofs.lemmas.Bool.{cases_lt}
use Rattle.std.proofs.lemmas.Bool.Decides.{nat_tests}
use Rattle.std.proofs.lemmas.List.{get_or-set_same, get_or-set_other}
use Rattle.hex.specs.Hex.{decode_pairs, decode_sized, digit_or_error, hex_digit_value, pair_value, ◌>>=◌}
use Rattle.hex.specs.declared.error.FromHexError.{FromHexError}
use Rattle.hex.specs.declared.error.FromHexError.TheVariants.{InvalidHexCharacter}
use Rattle.hex.proofs.OnLiterals.{hex_on_literals}
use Rattle.hex.proofs.Pairs.{prepend, decode_step, decode_err, decode_done, decode_sized-pairs}
use Rattle.mctpctl_input.specs.declared.hex_digits.TheConstants.{MAX_BYTE, NO_DIGIT}
use Rattle.mctpctl_input.specs.HexDigits.{HoldsDigits, value_or_none}

-- ---- what `hex` says of one byte, after a `0`

-- one digit's byte, or the fault at its place
abbrev digit_byte : ℕ → Option ℕ → Result (List ℕ) FromHexError
digit_byte byte (Some value) = Ok (value ∷ [])
digit_byte byte None = Err (InvalidHexCharacter byte 1)

one_byte : (byte : ℕ) (digit : Option ℕ)
    → ((digit_or_error byte 1 digit >>= (λ low. Ok (0 * 16 + low))) >>= (λ read. Ok (read ∷ [])))
    ≡ digit_byte byte digit
one_byte byte (Some value) = ap (λ n. Ok (n ∷ [])) (zero-add value)
one_byte byte None = refl

after_zero : (byte : ℕ) → decode_sized (48 ∷ byte ∷ []) 1 ≡ digit_byte byte (hex_digit_value byte)
unfolding hex_on_literals
after_zero byte = one_byte byte (hex_digit_value byte)

-- what was answered and written is what was read
abbrev Answers : Result (List ℕ) FromHexError → Result Unit FromHexError → List ℕ → Type 0
Answers read result out = MatchResult read (λ bytes. (result ≡ Ok tt) × (out ≡ bytes)) (λ fault. result ≡ Err fault)

read_digit : (byte : ℕ) (digit : Option ℕ) (out : List ℕ) → Answers (digit_byte byte digit) (Ok tt) out
    → slice_index out 0 ≡ value_or_none digit
read_digit byte (Some value) out h = rw h.1 refl
read_digit byte None out h = cc h

no_digit : (byte : ℕ) (digit : Option ℕ) (fault : FromHexError) (out : List ℕ)
    → Answers (digit_byte byte digit) (Err fault) out → NO_DIGIT ≡ value_or_none digit
no_digit byte (Some value) fault out h = cc h.0
no_digit byte None fault out h = refl

pub digit_read : (byte : ℕ) (out : List ℕ) → Answers (decode_sized (48 ∷ byte ∷ []) 1) (Ok tt) out
    → slice_index out 0 ≡ value_or_none (hex_digit_value byte)
digit_read byte out h = read_digit byte (hex_digit_value byte) out (rw (after_zero byte) at h)

pub digit_refused : (byte : ℕ) (fault : FromHexError) (out : List ℕ)
    → Answers (decode_sized (48 ∷ byte ∷ []) 1) (Err fault) out → NO_DIGIT ≡ value_or_none (hex_digit_value byte)
digit_refused byte fault out h = no_digit byte (hex_digit_value byte) fault out (rw (after_zero byte) at h)

-- ---- one place of a table

-- the greatest value of a digit
abbrev MAX_DIGIT : ℕ
MAX_DIGIT = 15

some_digit : (digit : Option ℕ) (value : ℕ) → value ≡ value_or_none digit → value ≤ MAX_DIGIT → digit ≡ Some value
some_digit (Some known) value e small = ap Some (sym e)
some_digit None value e small = absurd (omega arith)

digit_small : (byte value : ℕ) → hex_digit_value byte ≡ Some value → value < 16
digit_small byte value is = grind (arith)

none_digit : (byte : ℕ) (digit : Option ℕ) (value : ℕ) → hex_digit_value byte ≡ digit → value ≡ value_or_none digit
    → MAX_DIGIT < value → digit ≡ None
none_digit byte (Some known) value is e large = absurd (omega (arith, digit_small byte known is))
none_digit byte None value is e large = refl

-- each place holds a digit's value or what stands at no digit
few_or_none : (digit : Option ℕ) (value : ℕ) → ((known : ℕ) → digit ≡ Some known → known < 16) → value ≡ value_or_none digit
    → (value ≤ MAX_DIGIT) ⊎ (value ≡ NO_DIGIT)
few_or_none (Some known) value small e = inl (omega (arith, small known refl))
few_or_none None value small e = inr e

few_at : (values : List ℕ) (byte : ℕ) → HoldsDigits values → byte < 256
    → (slice_index values byte ≤ MAX_DIGIT) ⊎ (slice_index values byte ≡ NO_DIGIT)
unfolding HoldsDigits
few_at values byte held below = few_or_none (hex_digit_value byte) _ (digit_small byte) (held byte below)

pub at_most_none : (values : List ℕ) (byte : ℕ) → HoldsDigits values → byte < 256 → slice_index values byte ≤ NO_DIGIT
at_most_none values byte held below =
    elim (few_at values byte held below) [
      | inl few ↦ omega arith
      | inr none ↦ omega arith
    ]

-- ---- two places of a table, for a pair of digits

-- what two places give
abbrev pub put_together : List ℕ → ℕ → ℕ → ℕ
put_together values first second = slice_index values first * 16 + slice_index values second

-- both are digits where that is a byte
both_few : (values : List ℕ) (first second : ℕ) → HoldsDigits values → second < 256
    → put_together values first second ≤ MAX_BYTE
    → (slice_index values first ≤ MAX_DIGIT) × (slice_index values second ≤ MAX_DIGIT)
both_few values first second held below few = (
  omega arith,
  elim (few_at values second held below) [
    | inl small ↦ small
    | inr none ↦ absurd (omega arith)
  ],
)

-- the first or the second is no digit
abbrev IsNone : List ℕ → ℕ → ℕ → Type 0
IsNone values first second =
    (MAX_DIGIT < slice_index values first)
    ⊎ ((slice_index values first ≤ MAX_DIGIT) × (MAX_DIGIT < slice_index values second))

-- one of them is none where it is no byte
one_is_none : (values : List ℕ) (first second : ℕ) → MAX_BYTE < put_together values first second
    → IsNone values first second
one_is_none values first second large =
    elim (cases_lt MAX_DIGIT (slice_index values first)) [
      | inl high ↦ inl high
      | inr low ↦ inr (low, omega arith)
    ]

pair_read : (values : List ℕ) (first second i : ℕ) → HoldsDigits values → first < 256 → second < 256
    → slice_index values first ≤ MAX_DIGIT → slice_index values second ≤ MAX_DIGIT
    → pair_value first second i ≡ Ok (slice_index values first * 16 + slice_index values second)
unfolding HoldsDigits
pair_read values first second i held f s sh sl =
    let h = some_digit (hex_digit_value first) (slice_index values first) (held first f) sh in
    let l = some_digit (hex_digit_value second) (slice_index values second) (held second s) sl in
    rw (h, l) refl

low_refused : (first second i : ℕ) (digit : Option ℕ) → hex_digit_value first ≡ digit → hex_digit_value second ≡ None
    → (fault : FromHexError) × (pair_value first second i ≡ Err fault)
low_refused first second i None is none = (InvalidHexCharacter first i, rw is refl)
low_refused first second i (Some value) is none = (InvalidHexCharacter second (i + 1), rw (is, none) refl)

pair_refused : (values : List ℕ) (first second i : ℕ) → HoldsDigits values → first < 256 → second < 256
    → IsNone values first second → (fault : FromHexError) × (pair_value first second i ≡ Err fault)
unfolding HoldsDigits
pair_refused values first second i held f s (inl high) =
    let none = none_digit first (hex_digit_value first) (slice_index values first) refl (held first f) high in
    (InvalidHexCharacter first i, rw none refl)
pair_refused values first second i held f s (inr low) =
    let none = none_digit second (hex_digit_value second) (slice_index values second) refl (held second s) low.1 in
    low_refused first second i (hex_digit_value first) refl none

-- ---- a text of which the bytes before a place have been read

-- what `hex` reads of the text is these bytes and what it reads of the rest
abbrev pub HasRead : List ℕ → List ℕ → ℕ → Type 0
HasRead digits bytes place =
    decode_pairs 0 digits ≡ prepend (take place bytes) (decode_pairs (2 * place) (drop (2 * place) digits))

-- the pair at a place, where each digit is a byte
pub record PairAt (digits : List ℕ) (place first second : ℕ) : Type 0 where
  pub within : 2 * place + 1 < length digits
  pub first_is : first ≡ slice_index digits (2 * place)
  pub second_is : second ≡ slice_index digits (2 * place + 1)
  pub first_byte : first < 256
  pub second_byte : second < 256

pair_value_at : (digits : List ℕ) (place first second : ℕ) → PairAt digits place first second
    → pair_value (slice_index digits (2 * place)) (slice_index digits (2 * place + 1)) (2 * place)
    ≡ pair_value first second (2 * place)
pair_value_at digits place first second pair =
    ap (λ a. pair_value a (slice_index digits (2 * place + 1)) (2 * place)) (sym pair.first_is)
    ∙ ap (λ b. pair_value first b (2 * place)) (sym pair.second_is)

pair_added : (values digits bytes : List ℕ) (place first second : ℕ) → HoldsDigits values
    → PairAt digits place first second → place < length bytes → put_together values first second ≤ MAX_BYTE
    → HasRead digits bytes place
    → HasRead digits (slice_set bytes place (put_together values first second)) (place + 1)
pair_added values digits bytes place first second held pair room few so_far =
    let both = both_few values first second held pair.second_byte few in
    let read = pair_read values first second (2 * place) held pair.first_byte pair.second_byte both.0 both.1 in
    decode_step digits bytes place _ pair.within room (pair_value_at digits place first second pair ∙ read) so_far

-- `hex` refuses the text
abbrev pub IsRefused : List ℕ → Type 0
IsRefused digits = (fault : FromHexError) × (decode_pairs 0 digits ≡ Err fault)

pair_stops : (values digits bytes : List ℕ) (place first second : ℕ) → HoldsDigits values
    → PairAt digits place first second → MAX_BYTE < put_together values first second → HasRead digits bytes place
    → IsRefused digits
pair_stops values digits bytes place first second held pair large so_far =
    let none = one_is_none values first second large in
    let refused = pair_refused values first second (2 * place) held pair.first_byte pair.second_byte none in
    let bad = pair_value_at digits place first second pair ∙ refused.1 in
    (refused.0, decode_err digits bytes place refused.0 pair.within bad so_far)

-- the bytes before a place have been read where the greatest pair so far is a byte, and else the text is refused
pub record HasLooked (digits bytes : List ℕ) (place greatest : ℕ) : Type 0 where
  pub read : greatest ≤ MAX_BYTE → HasRead digits bytes place
  pub refused : MAX_BYTE < greatest → IsRefused digits

-- the greater of two numbers
greater : (a b : ℕ) → (ord_max nat_cmp a b ≡ a) ⊎ (ord_max nat_cmp a b ≡ b)
greater a b = grind (arith, nat_tests)

at_least : (a b : ℕ) → (a ≤ ord_max nat_cmp a b) × (b ≤ ord_max nat_cmp a b)
at_least a b = (grind (arith, nat_tests), grind (arith, nat_tests))

pub looked_on : (values digits bytes : List ℕ) (place first second greatest : ℕ) → HoldsDigits values
    → PairAt digits place first second → place < length bytes → HasLooked digits bytes place greatest
    → HasLooked digits (slice_set bytes place (put_together values first second % 256)) (place + 1)
    (ord_max nat_cmp greatest (put_together values first second))
looked_on values digits bytes place first second greatest held pair room so_far =
    let value = put_together values first second in
    let least = at_least greatest value in
    record {
      read = λ few.
          let one : value ≤ MAX_BYTE = omega (arith, few, least.1) in
          let same : value % 256 ≡ value = omega (arith, one) in
          rw same (pair_added values digits bytes place first second held pair room one (so_far.read (omega (arith, few, least.0))));
      refused = λ large. elim (cases_lt MAX_BYTE greatest) [
        | inl sooner ↦ so_far.refused sooner
        | inr not ↦ elim (greater greatest value) [
          | inl is ↦ absurd (omega (arith, large, is, not))
          | inr is ↦ pair_stops values digits bytes place first second held pair (omega (arith, large, is)) (so_far.read not)
        ]
      ];
    }

-- ---- what is answered of a text

-- whether the text was read, and the bytes
abbrev pub AnswersRead : Result (List ℕ) FromHexError → Bool → List ℕ → Type 0
AnswersRead read result bytes =
    MatchResult read (λ decoded. (result ≡ true) × (bytes ≡ decoded)) (λ fault. result ≡ false)

not_read : (read : Result (List ℕ) FromHexError) (bytes : List ℕ) → (fault : FromHexError) × (read ≡ Err fault)
    → AnswersRead read false bytes
not_read read bytes refused = rw refused.1 refl

all_read : (digits bytes : List ℕ) (room place : ℕ) → length bytes ≤ place → room ≤ place → length digits % 2 ≡ 0
    → length digits / 2 ≡ room → HasRead digits bytes place → AnswersRead (decode_sized digits room) true bytes
all_read digits bytes room place full all even half so_far =
    let read = decode_sized-pairs digits room even half ∙ decode_done digits bytes place full (omega arith) so_far in
    rw read (refl, refl)

pub answered : (digits bytes : List ℕ) (room place greatest : ℕ) (result : Bool) → (result ≡ true → greatest ≤ MAX_BYTE)
    → (result ≡ false → MAX_BYTE < greatest) → length bytes ≤ place → room ≤ place → length digits % 2 ≡ 0
    → length digits / 2 ≡ room → HasLooked digits bytes place greatest → AnswersRead (decode_sized digits room) result bytes
answered digits bytes room place greatest true small _ full all even half looked =
    all_read digits bytes room place full all even half (looked.read (small refl))
answered digits bytes room place greatest false _ large full all even half looked =
    let stopped = looked.refused (large refl) in
    not_read _ _ (stopped.0, decode_sized-pairs digits room even half ∙ stopped.1)

-- ---- a table that is being filled

-- the first bytes of a table have been asked for
unfoldable pub HoldsFront : List ℕ → ℕ → Type 0
HoldsFront values n = (byte : ℕ) → byte < n → slice_index values byte ≡ value_or_none (hex_digit_value byte)

pub none_held : (values : List ℕ) → HoldsFront values 0
unfolding HoldsFront
none_held values byte below = absurd (omega arith)

pub one_more_held : (values : List ℕ) (n value : ℕ) → n < length values → HoldsFront values n
    → value ≡ value_or_none (hex_digit_value n) → HoldsFront (slice_set values n value) (n + 1)
unfolding HoldsFront
one_more_held values n value room held is byte below =
    elim (cases_lt byte n) [
      | inl before ↦ get_or-set_other values n byte value 0 (λ same. absurd (omega arith)) ∙ held byte before
      | inr last ↦
          let same : byte ≡ n = omega arith in
          rw same (get_or-set_same values n value 0 room ∙ is)
    ]

pub all_held : (values : List ℕ) (n : ℕ) → 256 ≤ n → HoldsFront values n → HoldsDigits values
unfolding HoldsFront HoldsDigits
all_held values n all held byte below = held byte (omega arith)
