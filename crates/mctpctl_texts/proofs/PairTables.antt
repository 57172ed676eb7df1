-- A text whose digits are looked up in a table of pairs is written as `hex` writes it.
use Rattle.std.proofs.Common.{◌≡◌, ◌<◌, ◌≤◌, ◌+◌, ◌*◌, inl, inr, ℕ, List, [], ◌∷◌, length, take, get_or, slice_get, slice_set, Some, refl, ap, ◌∙◌, length-set, arith}
use Rattle.std.proofs.lemmas.Bool.{cases_lt}
use Rattle.std.proofs.lemmas.List.{get_or-set_same, get_or-set_other}
use Rattle.std.proofs.lemmas.Option.{get_or_from_slice_get, slice_get-get_or}
use Rattle.hex.specs.Hex.{encode_lower, encode_with}
use Rattle.mctpctl_texts.specs.HexPairs.{HoldsPairs}
use Rattle.mctpctl_texts.proofs.HexDigits.{pair_written}

-- ---- a table that is being filled

-- the first bytes of a table have been asked for
unfoldable pub HoldsFront : List (List ℕ) → ℕ → Type 0
HoldsFront pairs n = (byte : ℕ) → byte < n → slice_get pairs byte ≡ Some (encode_lower (byte ∷ []))

pub none_held : (pairs : List (List ℕ)) → HoldsFront pairs 0
unfolding HoldsFront
none_held pairs byte below = absurd (omega arith)

set_same : (pairs : List (List ℕ)) (n : ℕ) (pair : List ℕ) → n < length pairs → slice_get (slice_set pairs n pair) n ≡ Some pair
set_same pairs n pair room =
    slice_get-get_or (slice_set pairs n pair) n [] (omega (arith, length-set pairs n pair))
    ∙ ap Some (get_or-set_same pairs n pair [] room)

set_other : (pairs : List (List ℕ)) (n byte : ℕ) (pair known : List ℕ) → byte < n → n < length pairs
    → slice_get pairs byte ≡ Some known → slice_get (slice_set pairs n pair) byte ≡ Some known
set_other pairs n byte pair known before room is =
    slice_get-get_or (slice_set pairs n pair) byte [] (omega (arith, length-set pairs n pair))
    ∙ ap Some (get_or-set_other pairs n byte pair [] (λ same. absurd (omega arith)) ∙ get_or_from_slice_get pairs byte known [] is)

pub one_more_held : (pairs : List (List ℕ)) (n : ℕ) (pair : List ℕ) → n < length pairs → HoldsFront pairs n
    → pair ≡ encode_lower (n ∷ []) → HoldsFront (slice_set pairs n pair) (n + 1)
unfolding HoldsFront
one_more_held pairs n pair room in_all is byte below =
    elim (cases_lt byte n) [
      | inl before ↦ set_other pairs n byte pair (encode_lower (byte ∷ [])) before room (in_all byte before)
      | inr last ↦
          let same : byte ≡ n = omega arith in
          rw same (set_same pairs n pair room ∙ ap Some is)
    ]

pub all_held : (pairs : List (List ℕ)) (n : ℕ) → 256 ≤ n → HoldsFront pairs n → HoldsPairs pairs
unfolding HoldsFront HoldsPairs
all_held pairs n all in_all byte below = in_all byte (omega arith)

both_digits : (pair : List ℕ) (byte : ℕ) → pair ≡ encode_lower (byte ∷ [])
    → get_or pair 0 0 ∷ get_or pair 1 0 ∷ [] ≡ encode_lower (byte ∷ [])
unfolding encode_with
both_digits pair byte is = rw is refl

-- the two digits that the table has of a byte
pair_held : (pairs : List (List ℕ)) (byte : ℕ) → HoldsPairs pairs → byte < 256
    → get_or (get_or pairs byte []) 0 0 ∷ get_or (get_or pairs byte []) 1 0 ∷ [] ≡ encode_lower (byte ∷ [])
unfolding HoldsPairs
pair_held pairs byte in_all small =
    both_digits (get_or pairs byte []) byte (get_or_from_slice_get pairs byte (encode_lower (byte ∷ [])) [] (in_all byte small))

-- the digits that the table has of a byte come after those of the bytes before
pub pair_added : (pairs : List (List ℕ)) (room bytes : List ℕ) (place byte : ℕ) → HoldsPairs pairs → byte < 256
    → byte ≡ get_or bytes place 0 → place < length bytes → 2 * place + 1 < length room
    → take (2 * place) room ≡ encode_lower (take place bytes)
    → take (2 * (place + 1)) (slice_set (slice_set room (2 * place) (get_or (get_or pairs byte []) 0 0)) (2 * place + 1) (get_or (get_or pairs byte []) 1 0))
    ≡ encode_lower (take (place + 1) bytes)
pair_added pairs room bytes place byte in_all small = pair_written room bytes place byte _ _ (pair_held pairs byte in_all small)
