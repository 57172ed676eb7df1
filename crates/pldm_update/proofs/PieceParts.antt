-- A piece is the bytes that the image has there, and zeros.
use Rattle.std.proofs.Common.{◌≡◌, ℕ, ◌+◌, ◌-◌, ◌<◌, ◌≤◌, List, [], ◌∷◌, ◌++◌, length, refl, sym, ap, ◌∙◌, ⊎_elim, arith}
use Rattle.std.specs.Prelude.{take, drop, min, replicate}
use Rattle.std.proofs.lemmas.Bool.{cases_lt}
use Rattle.std.proofs.lemmas.List.{take-append-le, take-replicate, take_all, length-drop}
use Rattle.std.proofs.Math.Seq.{take-append-add}
use Rattle.pldm_update.specs.ImagePieces.{piece}

none_left : (offset : ℕ) (image : List ℕ) → length image ≤ offset → drop offset image ≡ []
none_left offset image h = empty (drop offset image) (length-drop offset image ∙ omega arith)
  where
    empty : (rest : List ℕ) → length rest ≡ 0 → rest ≡ []
    empty [] h = refl
    empty (byte ∷ rest) h = absurd (omega (arith, h))

same_rest : (offset : ℕ) (image : List ℕ) → drop (min (length image) offset) image ≡ drop offset image
same_rest offset image =
    ⊎_elim
    (λ (past : length image < offset).
    ap (λ n. drop n image) (let m : min (length image) offset ≡ length image = omega arith in m)
    ∙ none_left (length image) image (omega arith) ∙ sym (none_left offset image (omega arith)))
    (λ (within : offset ≤ length image). ap (λ n. drop n image) (omega arith))
    (cases_lt (length image) offset)

within : (rest : List ℕ) (count : ℕ) → take (min (length rest) count) rest ++ replicate (count - min (length rest) count) 0 ≡ take count (rest ++ replicate count 0)
within rest count =
    ⊎_elim
    (λ (few : length rest < count).
    let m : min (length rest) count ≡ length rest = omega arith in
    let n : length rest + (count - length rest) ≡ count = omega arith in
    rw m
    (ap (λ (front : List ℕ). front ++ replicate (count - length rest) 0) (take_all (length rest) rest (omega arith))
    ∙ ap (λ (back : List ℕ). rest ++ back) (sym (take-replicate (count - length rest) count 0 (omega arith)))
    ∙ sym (take-append-add rest (replicate count 0) (count - length rest))
    ∙ ap (λ k. take k (rest ++ replicate count 0)) n))
    (λ (many : count ≤ length rest).
    let m : min (length rest) count ≡ count = omega arith in
    let none : count - count ≡ 0 = omega arith in
    rw (m, none) (append_nil (take count rest) ∙ sym (take-append-le count rest (replicate count 0) many)))
    (cases_lt (length rest) count)
  where
    append_nil : (bytes : List ℕ) → bytes ++ replicate 0 0 ≡ bytes
    append_nil [] = refl
    append_nil (byte ∷ bytes) = ap (λ (more : List ℕ). byte ∷ more) (append_nil bytes)

-- as it is put together
pub piece_parts : (image : List ℕ) (offset count : ℕ)
    → take (min (length (drop (min (length image) offset) image)) count) (drop (min (length image) offset) image)
    ++ replicate (count - min (length (drop (min (length image) offset) image)) count) 0
    ≡ piece image offset count
piece_parts image offset count = rw (same_rest offset image) (within (drop offset image) count)
