-- The first part of a text, by the place of its first comma.
use Rattle.std.proofs.Common.{◌≡◌, ℕ, ◌+◌, ◌==◌, ◌≤◌, Bool, true, false, cond, nat_lt, List, [], ◌∷◌, length, take, drop, Option, Some, None, position, refl, subst, arith, rules}
use Rattle.std.specs.List.{position_or_len}
use Rattle.std.proofs.lemmas.List.Sums.{fails_before_first}
use Rattle.std.proofs.lemmas.List.Splits.{slice_split_first, slice_split_none}
use Rattle.std.proofs.lemmas.Bool.Decides.{nat_tests}
use Rattle.line_faults.specs.Spellings.{parts_of, refused_in}
use Rattle.line_faults.specs.declared.spelling.FaultsPart.TheVariants.{Count}

-- the text is cut at this comma
abbrev pub IsCut : List ℕ → ℕ → Type 0
IsCut text end = parts_of text ≡ take end text ∷ parts_of (drop (end + 1) text)

cut_by : (text : List ℕ) (end : ℕ) (found : Bool) → nat_lt (position_or_len (λ b. b == 44) text) (length text) ≡ found → cond found (Some (position_or_len (λ b. b == 44) text)) None ≡ Some end → IsCut text end
cut_by text end true inside e =
    let same : position_or_len (λ b. b == 44) text ≡ end = cc in
    let P : ℕ → Type 0 = λ n. IsCut text n in
    subst P same (slice_split_first (λ b. b == 44) text 0 (search (rules, nat_tests)))
cut_by text end false inside e = let none : None ≡ Some end = e in cc

pub split_some : (text : List ℕ) (end : ℕ) → position (λ b. b == 44) text ≡ Some end → IsCut text end
split_some text end e = cut_by text end (nat_lt (position_or_len (λ b. b == 44) text) (length text)) refl e

whole_by : (text : List ℕ) (found : Bool) → nat_lt (position_or_len (λ b. b == 44) text) (length text) ≡ found → cond found (Some (position_or_len (λ b. b == 44) text)) None ≡ None → parts_of text ≡ text ∷ []
whole_by text true inside e = cc
whole_by text false inside e =
    let past : length text ≤ position_or_len (λ b. b == 44) text = search (rules, nat_tests) in
    slice_split_none (λ b. b == 44) text (λ k d within. fails_before_first (λ b. b == 44) text k d (omega arith))

pub split_none : (text : List ℕ) → position (λ b. b == 44) text ≡ None → parts_of text ≡ text ∷ []
split_none text e = whole_by text (nat_lt (position_or_len (λ b. b == 44) text) (length text)) refl e

refused_by_place : (a b c d text : List ℕ) (place : Option ℕ) → position (λ b. b == 44) text ≡ place → refused_in (a ∷ b ∷ c ∷ d ∷ parts_of text) ≡ Some Count
refused_by_place a b c d text None e = rw (split_none text e) refl
refused_by_place a b c d text (Some end) e = rw (split_some text end e) refl

-- four parts and more after them are too many
pub too_many : (a b c d text : List ℕ) → refused_in (a ∷ b ∷ c ∷ d ∷ parts_of text) ≡ Some Count
too_many a b c d text = refused_by_place a b c d text (position (λ b. b == 44) text) refl
