-- The bits that were made of states stand for these states and no others.
use Rattle.std.proofs.Common.{◌≡◌, ℕ, zero, suc, ◌+◌, ◌-◌, ◌*◌, ◌/◌, ◌%◌, ◌^◌, ◌<◌, ◌==◌, Bool, true, false, List, [], ◌∷◌, length, slice_index, if◌then◌else◌, refl, sym, ap, ◌∙◌, arith, inl, inr}
use Rattle.std.proofs.Math.Nat.{zero-div}
use Rattle.std.proofs.lemmas.Bool.{cases_lt, ne_eqb}
use Rattle.std.proofs.lemmas.List.{length-append, get_or_append_left, get_or-append_right, get_or_past}
use Rattle.pldm_pdr.specs.StateSets.{has_state, is_among, bit_of, bits_from, bits_in, last_byte}

pub length-bits_in : (states : List ℕ) (count : ℕ) → length (bits_in states count) ≡ count
length-bits_in states zero = refl
length-bits_in states (suc count) =
    omega (arith, length-append (bits_in states count) (bits_from states (8 * count) ∷ []), length-bits_in states count)

byte_in : (states : List ℕ) (count place : ℕ) → place < count → slice_index (bits_in states count) place ≡ bits_from states (8 * place)
byte_in states zero place h = absurd (omega arith)
byte_in states (suc count) place h =
    let long = length-bits_in states count in
    elim (cases_lt place count) [
      | inl lt ↦ get_or_append_left (bits_in states count) (bits_from states (8 * count) ∷ []) 0 place (omega arith) ∙ byte_in states count place lt
      | inr le ↦
          let same : place ≡ count = omega arith in
          let none : place - count ≡ 0 = omega arith in
          get_or-append_right (bits_in states count) (bits_from states (8 * count) ∷ []) count place 0 long le
          ∙ rw (none, same) refl
    ]

small : (b : Bool) → (if b then 1 else 0) < 2
small true = omega arith
small false = omega arith

one_bit : (states : List ℕ) (state : ℕ) → bit_of states state < 2
one_bit states state = small (is_among states state)

-- one of eight bits
eighth : ℕ → ℕ → ℕ → ℕ → ℕ → ℕ → ℕ → ℕ → ℕ → ℕ
eighth zero a b c d e f g h = a
eighth (suc zero) a b c d e f g h = b
eighth (suc (suc zero)) a b c d e f g h = c
eighth (suc (suc (suc zero))) a b c d e f g h = d
eighth (suc (suc (suc (suc zero)))) a b c d e f g h = e
eighth (suc (suc (suc (suc (suc zero))))) a b c d e f g h = f
eighth (suc (suc (suc (suc (suc (suc zero)))))) a b c d e f g h = g
eighth (suc (suc (suc (suc (suc (suc (suc n))))))) a b c d e f g h = h

bits_apart : (place a b c d e f g h : ℕ) → place < 8 → a < 2 → b < 2 → c < 2 → d < 2 → e < 2 → f < 2 → g < 2 → h < 2
    → (a + 2 * b + 4 * c + 8 * d + 16 * e + 32 * f + 64 * g + 128 * h) / 2 ^ place % 2 ≡ eighth place a b c d e f g h
unfolding eighth
bits_apart zero a b c d e f g h p ha hb hc hd he hf hg hh = omega arith
bits_apart (suc zero) a b c d e f g h p ha hb hc hd he hf hg hh = omega arith
bits_apart (suc (suc zero)) a b c d e f g h p ha hb hc hd he hf hg hh = omega arith
bits_apart (suc (suc (suc zero))) a b c d e f g h p ha hb hc hd he hf hg hh = omega arith
bits_apart (suc (suc (suc (suc zero)))) a b c d e f g h p ha hb hc hd he hf hg hh = omega arith
bits_apart (suc (suc (suc (suc (suc zero))))) a b c d e f g h p ha hb hc hd he hf hg hh = omega arith
bits_apart (suc (suc (suc (suc (suc (suc zero)))))) a b c d e f g h p ha hb hc hd he hf hg hh = omega arith
bits_apart (suc (suc (suc (suc (suc (suc (suc zero))))))) a b c d e f g h p ha hb hc hd he hf hg hh = omega arith
bits_apart (suc (suc (suc (suc (suc (suc (suc (suc n)))))))) a b c d e f g h p ha hb hc hd he hf hg hh = absurd (omega arith)

eighth_is : (states : List ℕ) (first place : ℕ) → place < 8
    → eighth place (bit_of states first) (bit_of states (first + 1)) (bit_of states (first + 2)) (bit_of states (first + 3)) (bit_of states (first + 4)) (bit_of states (first + 5)) (bit_of states (first + 6)) (bit_of states (first + 7)) ≡ bit_of states (first + place)
unfolding eighth
eighth_is states first zero p = ap (bit_of states) (omega arith)
eighth_is states first (suc zero) p = refl
eighth_is states first (suc (suc zero)) p = refl
eighth_is states first (suc (suc (suc zero))) p = refl
eighth_is states first (suc (suc (suc (suc zero)))) p = refl
eighth_is states first (suc (suc (suc (suc (suc zero))))) p = refl
eighth_is states first (suc (suc (suc (suc (suc (suc zero)))))) p = refl
eighth_is states first (suc (suc (suc (suc (suc (suc (suc zero))))))) p = refl
eighth_is states first (suc (suc (suc (suc (suc (suc (suc (suc n)))))))) p = absurd (omega arith)

bit_at : (states : List ℕ) (first place : ℕ) → place < 8 → bits_from states first / 2 ^ place % 2 ≡ bit_of states (first + place)
bit_at states first place p =
    bits_apart place (bit_of states first) (bit_of states (first + 1)) (bit_of states (first + 2)) (bit_of states (first + 3)) (bit_of states (first + 4)) (bit_of states (first + 5)) (bit_of states (first + 6)) (bit_of states (first + 7)) p
    (one_bit states first) (one_bit states (first + 1)) (one_bit states (first + 2)) (one_bit states (first + 3)) (one_bit states (first + 4)) (one_bit states (first + 5)) (one_bit states (first + 6)) (one_bit states (first + 7))
    ∙ eighth_is states first place p

tells : (b : Bool) → ((if b then 1 else 0) == 1) ≡ b
tells true = refl
tells false = refl

not_among : (states : List ℕ) (state : ℕ) → last_byte states < state / 8 → is_among states state ≡ false
not_among [] state h = refl
not_among (first ∷ states) state h =
    let other : (first == state) ≡ false = ne_eqb first state (λ (same : first ≡ state). let bytes : first / 8 ≡ state / 8 = ap (λ (s : ℕ). s / 8) same in omega arith) in
    rw (other, not_among states state (omega arith)) refl

pub possible_where_among : (states : List ℕ) (state : ℕ) → has_state (bits_in states (last_byte states + 1)) state ≡ is_among states state
possible_where_among states state =
    let count = last_byte states + 1 in
    let place = state / 8 in
    elim (cases_lt place count) [
      | inl lt ↦
          let same : 8 * (state / 8) + state % 8 ≡ state = omega arith in
          let bit : slice_index (bits_in states count) place / 2 ^ (state % 8) % 2 ≡ bit_of states state =
          ap (λ (b : ℕ). b / 2 ^ (state % 8) % 2) (byte_in states count place lt) ∙ bit_at states (8 * place) (state % 8) (omega arith) ∙ ap (bit_of states) same in
          ap (λ (b : ℕ). b == 1) bit ∙ tells (is_among states state)
      | inr le ↦
          let past : slice_index (bits_in states count) place ≡ 0 = get_or_past (bits_in states count) place 0 (omega (arith, length-bits_in states count)) in
          let bit : slice_index (bits_in states count) place / 2 ^ (state % 8) % 2 ≡ 0 =
          ap (λ (b : ℕ). b / 2 ^ (state % 8) % 2) past ∙ ap (λ (b : ℕ). b % 2) (zero-div (2 ^ (state % 8))) in
          ap (λ (b : ℕ). b == 1) bit ∙ sym (not_among states state (omega arith))
    ]
