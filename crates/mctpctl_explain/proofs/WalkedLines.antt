-- A place behind a line, and in one.
use Rattle.std.proofs.Common.{◌≡◌, ℕ, suc, ◌+◌, ◌-◌, ◌<◌, ◌≤◌, ◌==◌, false, List, [], ◌∷◌, ◌++◌, length, take, refl, ap, ◌∙◌, arith, length-take}
use Rattle.std.proofs.Math.Seq.{take-append-add}
use Rattle.std.proofs.lemmas.List.{take-append-le}
use Rattle.std.proofs.lemmas.List.Elements.{All-tail, All-take}
use Rattle.line_words.specs.TextLines.{HasNoFeed}
use Rattle.mctpctl_explain.specs.TextPlaces.{place_after}
use Rattle.mctpctl_explain.specs.declared.place.Place.{Place}

abbrev place : ℕ → ℕ → Place
place line column = record { line = line; column = column }

no_feed : (byte : ℕ) (more : List ℕ) → HasNoFeed (byte ∷ more) → (byte == 10) ≡ false
no_feed byte more none = none 0 0 (omega arith)

rest_of : (byte : ℕ) (more : List ℕ) → HasNoFeed (byte ∷ more) → HasNoFeed more
rest_of byte more none = All-tail (λ b. (b == 10) ≡ false) byte more none

past_line : (line column : ℕ) (before more : List ℕ) → HasNoFeed before → place_after line column (before ++ 10 ∷ more) ≡ place_after (line + 1) 1 more
past_line line column [] more none = refl
past_line line column (byte ∷ before) more none =
    rw (no_feed byte before none) (past_line line (column + 1) before more (rest_of byte before none))

in_line : (line column : ℕ) (text : List ℕ) → HasNoFeed text → place_after line column text ≡ record { line = line; column = column + length text }
in_line line column [] none = let same : column ≡ column + 0 = omega arith in ap (place line) same
in_line line column (byte ∷ more) none =
    let same : column + 1 + length more ≡ column + length (byte ∷ more) = omega arith in
    rw (no_feed byte more none) (in_line line (column + 1) more (rest_of byte more none) ∙ ap (place line) same)

-- a line further
pub line_further : (line left : ℕ) (before after : List ℕ) → HasNoFeed before → length before < left → place_after line 1 (take left (before ++ 10 ∷ after)) ≡ place_after (line + 1) 1 (take (left - length before - 1) after)
line_further line left before after none past =
    let split : left ≡ length before + suc (left - length before - 1) = omega arith in
    ap (λ n. place_after line 1 (take n (before ++ 10 ∷ after))) split
    ∙ ap (place_after line 1) (take-append-add before (10 ∷ after) (suc (left - length before - 1)))
    ∙ past_line line 1 before (take (left - length before - 1) after) none

-- in the line that is reached
pub here : (line left : ℕ) (text : List ℕ) → HasNoFeed text → left ≤ length text → place_after line 1 (take left text) ≡ record { line = line; column = left + 1 }
here line left text none within =
    let count : 1 + length (take left text) ≡ left + 1 = omega (arith, length-take left text) in
    in_line line 1 (take left text) (All-take (λ b. (b == 10) ≡ false) left text none) ∙ ap (place line) count

pub here_before : (line left : ℕ) (before after : List ℕ) → HasNoFeed before → left ≤ length before → place_after line 1 (take left (before ++ 10 ∷ after)) ≡ record { line = line; column = left + 1 }
here_before line left before after none within =
    ap (place_after line 1) (take-append-le left before (10 ∷ after) within) ∙ here line left before none within
