-- A text that is written digit by digit is written as `hex` writes it.
use Rattle.std.proofs.Common.{◌≡◌, ◌<◌, ◌+◌, ◌*◌, ◌/◌, ◌%◌, ℕ, List, [], ◌∷◌, ◌++◌, length, take, drop, get_or, slice_index, slice_set, refl, sym, ap, ◌∙◌, add-one, append_assoc, take-suc, length-set, arith}
use Rattle.std.proofs.lemmas.List.{drop-drop, drop-set-lt, take_more_set}
use Rattle.hex.specs.Hex.{encode_lower, encode_with, lower_digits}

encoded_after : (table front back : List ℕ) → encode_with table (front ++ back) ≡ encode_with table front ++ encode_with table back
unfolding encode_with
encoded_after table [] back = refl
encoded_after table (byte ∷ front) back =
    ap (λ t. slice_index table (byte / 16) ∷ slice_index table (byte % 16) ∷ t) (encoded_after table front back)

pub nothing_written : [] ≡ encode_lower []
unfolding encode_with
nothing_written = refl

two_more : (room : List ℕ) (place high low : ℕ) → 2 * place + 1 < length room
    → take (2 * (place + 1)) (slice_set (slice_set room (2 * place) high) (2 * place + 1) low)
    ≡ take (2 * place) room ++ high ∷ low ∷ []
two_more room place high low within =
    let first = slice_set room (2 * place) high in
    let end : 2 * (place + 1) ≡ (2 * place + 1) + 1 = omega arith in
    rw end (take_more_set first (2 * place + 1) low (omega (arith, length-set room (2 * place) high))
    ∙ ap (λ front. front ++ low ∷ []) (take_more_set room (2 * place) high (omega arith))
    ∙ append_assoc (take (2 * place) room) (high ∷ []) (low ∷ []))

-- what comes after two more digits is as it was
pub rest_kept : (room old : List ℕ) (place high low : ℕ) → drop (2 * place) room ≡ drop (2 * place) old
    → drop (2 * (place + 1)) (slice_set (slice_set room (2 * place) high) (2 * place + 1) low) ≡ drop (2 * (place + 1)) old
rest_kept room old place high low kept =
    let end : 2 * (place + 1) ≡ 2 * place + 2 = omega arith in
    drop-set-lt (2 * (place + 1)) (slice_set room (2 * place) high) (2 * place + 1) low (omega arith)
    ∙ drop-set-lt (2 * (place + 1)) room (2 * place) high (omega arith)
    ∙ rw end (sym (drop-drop 2 (2 * place) room) ∙ ap (drop 2) kept ∙ drop-drop 2 (2 * place) old)

-- two digits come after those of the bytes before
pub pair_written : (room bytes : List ℕ) (place byte high low : ℕ) → high ∷ low ∷ [] ≡ encode_lower (byte ∷ [])
    → byte ≡ get_or bytes place 0 → place < length bytes → 2 * place + 1 < length room
    → take (2 * place) room ≡ encode_lower (take place bytes)
    → take (2 * (place + 1)) (slice_set (slice_set room (2 * place) high) (2 * place + 1) low) ≡ encode_lower (take (place + 1) bytes)
pair_written room bytes place byte high low are is here within so_far =
    let longer : take (place + 1) bytes ≡ take place bytes ++ byte ∷ [] = rw (add-one, is) (take-suc bytes place 0 here) in
    two_more room place high low within
    ∙ ap (λ front. front ++ high ∷ low ∷ []) so_far
    ∙ ap (λ pair. encode_lower (take place bytes) ++ pair) are
    ∙ sym (encoded_after lower_digits (take place bytes) (byte ∷ []))
    ∙ sym (ap encode_lower longer)

-- these are the two digits of a byte
pub digits_of_byte : (byte high low : ℕ) → high ≡ slice_index lower_digits (byte / 16) → low ≡ slice_index lower_digits (byte % 16)
    → high ∷ low ∷ [] ≡ encode_lower (byte ∷ [])
unfolding encode_with
digits_of_byte byte high low is_high is_low = ap (λ h. h ∷ low ∷ []) is_high ∙ ap (λ l. slice_index lower_digits (byte / 16) ∷ l ∷ []) is_low
