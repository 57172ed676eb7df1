-- The first place of a byte, as `memchr` finds it.
use Rattle.std.proofs.Common.{◌≡◌, ℕ, Bool, true, false, List, Option, None, Some, length, position, nat_lt, refl, arith, rules}
use Rattle.std.specs.List.{position_or_len}
use Rattle.std.specs.Prelude.{slice_index}
use Rattle.std.proofs.lemmas.List.Sums.{position_or_len_is}
use Rattle.std.proofs.lemmas.Bool.Decides.{nat_tests}
use Rattle.memchr.specs.Find.{IsFirstByte}

is_false : (b : Bool) → ¬ (b ≡ true) → b ≡ false
is_false true fails = absurd (fails refl)
is_false false fails = refl

pub found_place : (p : ℕ → Bool) (text : List ℕ) (found : Option ℕ) → IsFirstByte p text found → found ≡ position p text
found_place p text None none =
    let at : position_or_len p text ≡ length text =
    position_or_len_is p text (length text) 0 (omega arith) (λ k below. is_false (p (slice_index text k)) (none k (omega arith) below)) (λ below. absurd (omega (arith, below))) in
    let test : nat_lt (length text) (length text) ≡ false = search (rules, nat_tests) in
    rw (at, test) refl
found_place p text (Some place) (first, passes) =
    let at : position_or_len p text ≡ place =
    position_or_len_is p text place 0 (omega (arith, first.high)) (λ k below. is_false (p (slice_index text k)) (first.before k (omega arith) below)) (λ below. passes) in
    let test : nat_lt place (length text) ≡ true = search (rules, nat_tests, first.high) in
    rw (at, test) refl
