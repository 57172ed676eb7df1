-- A packet's line that is spelled in its place.
use Rattle.std.proofs.Common.{◌≡◌, ℕ, ◌+◌, ◌-◌, ◌*◌, List, [], ◌∷◌, ◌++◌, length, take, drop, replicate, sym, ap, ◌∙◌, append_assoc, append-nil, length-append, length-take, ◌≤◌, arith}
use Rattle.std.proofs.lemmas.List.{drop_all, drop-drop, drop-replicate, length-replicate, take_all, take_at}
use Rattle.std.proofs.Math.Seq.{drop-append_seam}
use Rattle.hex.proofs.HexLemmas.{length-encode_with}
use Rattle.hex.specs.Hex.{encode_lower, lower_digits}
use Rattle.mctpctl_texts.proofs.WrittenParts.{hex_after}

-- the digits of the bytes in front fill their room, and those of the others come in front of the rest
pub both_spelled : (front back room one two : List ℕ) (n : ℕ) → n ≡ 2 * length front
    → one ≡ encode_lower front ++ drop n (take n room) → two ≡ encode_lower back ++ drop (2 * length back) (drop n room)
    → one ++ two ≡ encode_lower (front ++ back) ++ drop (2 * length (front ++ back)) room
both_spelled front back room one two n size first second =
    let filled : one ≡ encode_lower front = first ∙ ap (λ t. encode_lower front ++ t) (drop_all n (take n room) (omega (arith, length-take n room))) ∙ append-nil (encode_lower front) in
    let end : n + 2 * length back ≡ 2 * length (front ++ back) = omega (arith, size, length-append front back) in
    let rest : drop (2 * length back) (drop n room) ≡ drop (2 * length (front ++ back)) room = drop-drop (2 * length back) n room ∙ ap (λ i. drop i room) end in
    ap (λ t. t ++ two) filled ∙ ap (λ t. encode_lower front ++ t) (second ∙ ap (λ t. encode_lower back ++ t) rest)
    ∙ sym (append_assoc (encode_lower front) (encode_lower back) (drop (2 * length (front ++ back)) room))
    ∙ ap (λ t. t ++ drop (2 * length (front ++ back)) room) (hex_after front back)

-- the end of a line stands in its room where its digits do not
line_ends : (old : List ℕ) (n k : ℕ) → n + 1 ≤ k → drop n (take k (drop (length old) (old ++ replicate (n + 1) 10))) ≡ 10 ∷ []
line_ends old n k long =
    let one : (n + 1) - n ≡ 1 = omega arith in
    ap (λ t. drop n (take k t)) (drop-append_seam old (replicate (n + 1) 10))
    ∙ ap (drop n) (take_all k (replicate (n + 1) 10) (omega (arith, long, length-replicate {A = ℕ} (n + 1) 10)))
    ∙ drop-replicate n (n + 1) 10 ∙ ap (λ i. replicate i 10) one

-- a line that stands behind a text
put_behind : (old line p r : List ℕ) (end : ℕ) → end ≡ length old + length line → take end ((old ++ (line ++ p)) ++ r) ≡ old ++ line
put_behind old line p r end is =
    let moved : (old ++ (line ++ p)) ++ r ≡ (old ++ line) ++ (p ++ r) =
    ap (λ t. t ++ r) (sym (append_assoc old line p)) ∙ append_assoc (old ++ line) p r in
    ap (take end) moved ∙ take_at (old ++ line) (p ++ r) end (omega (arith, is, length-append old line))

-- a vector that has got room for a line behind its text has the line there, once its digits are put in front of the
-- room
pub line_put : (old v room digits p r : List ℕ) (len start end count n : ℕ) → len ≡ length old → start ≡ len → end ≡ start + (n + 1) → count ≡ end
    → v ≡ take end old ++ replicate (end - len) 10 → length digits ≡ n → room ≡ digits ++ drop n (take (length v - start) (drop start v))
    → take count ((take start v ++ (room ++ p)) ++ r) ≡ old ++ (digits ++ 10 ∷ [])
line_put old v room digits p r len start end count n holds at is counted made size put =
    let more : end - len ≡ n + 1 = omega (arith, at, is) in
    let whole : v ≡ old ++ replicate (n + 1) 10 =
    made ∙ ap (λ t. t ++ replicate (end - len) 10) (take_all end old (omega (arith, holds, at, is))) ∙ ap (λ k. old ++ replicate k 10) more in
    let long : n + 1 ≤ length v - start =
    omega (arith, holds, at, ap length whole, length-append old (replicate (n + 1) 10), length-replicate {A = ℕ} (n + 1) 10) in
    let begin : start ≡ length old = at ∙ holds in
    let before : take start v ≡ old = ap (take start) whole ∙ take_at old (replicate (n + 1) 10) start (sym begin) in
    let after : drop n (take (length v - start) (drop start v)) ≡ 10 ∷ [] =
    ap (λ t. drop n (take (length v - start) (drop start t))) whole
    ∙ ap (λ i. drop n (take (length v - start) (drop i (old ++ replicate (n + 1) 10)))) begin ∙ line_ends old n (length v - start) long in
    let line : room ≡ digits ++ 10 ∷ [] = put ∙ ap (λ t. digits ++ t) after in
    ap (λ t. take count ((t ++ (room ++ p)) ++ r)) before ∙ ap (λ t. take count ((old ++ (t ++ p)) ++ r)) line
    ∙ put_behind old (digits ++ 10 ∷ []) p r count (omega (arith, holds, at, is, counted, size, length-append digits (10 ∷ [])))

-- the digits of bytes
pub digits_of : (bytes : List ℕ) → length (encode_lower bytes) ≡ 2 * length bytes
digits_of bytes = length-encode_with lower_digits bytes
