-- What is held between each requester and each responder, after one entry was written, put in or not found.
use Rattle.std.proofs.Common.{◌≡◌, ℕ, ◌==◌, ◌&&◌, Bool, true, false, cond, List, Option, Some, None, unwrap_or, Result, Ok, Err, OnOk, refl, sym, ap, ◌∙◌, eqb-true}
use Rattle.std.specs.Prelude.{if◌then◌else◌}
use Rattle.std.specs.BTreeMap.{is_at}
use Rattle.std.specs.Cmp.{unsigned_tied}
use Rattle.std.specs.Map.{lookup}
use Rattle.std.specs.Ordering.{is_eq, nat_cmp, ordering_then}
use Rattle.std.specs.declared.cmp.Ordering.{Ordering}
use Rattle.std.specs.declared.cmp.Ordering.TheVariants.{Less, Equal, Greater}
use Rattle.std.proofs.lemmas.Bool.{and_parts}
use Rattle.mctpctl_decode.specs.HeldTransfers.{held_in, pair_cmp}
use Rattle.mctpctl_decode.specs.Transfers.{Given, Transferred, none_transferred, with_given}

abbrev Entries : Type 0
Entries = List ((ℕ × ℕ) × Transferred)

-- the value at the key that was changed, in the place of what a list holds there
abbrev Puts : Entries → ℕ × ℕ → Transferred → Entries → Type 0
Puts es key v fs =
    (q : ℕ × ℕ) → lookup (is_at (pair_cmp q)) fs ≡ cond (is_at (pair_cmp key) q) (Some v) (lookup (is_at (pair_cmp q)) es)

both_tied : (o p : Ordering) → is_eq (ordering_then o p) ≡ is_eq o && is_eq p
both_tied Less p = refl
both_tied Equal p = refl
both_tied Greater p = refl

-- pairs are alike where both parts are
pair_tied : (a b c d : ℕ) → is_at (pair_cmp (a, b)) (c, d) ≡ (a == c) && (b == d)
pair_tied a b c d =
    both_tied (nat_cmp a c) (nat_cmp b d) ∙ ap (λ t. t && is_eq (nat_cmp b d)) (unsigned_tied a c) ∙ ap (λ t. (a == c) && t) (unsigned_tied b d)

-- what stands at a key that is alike stands at the key
held_alike : (es : Entries) (a b c d : ℕ) → (a == c) && (b == d) ≡ true → held_in es a b ≡ held_in es c d
held_alike es a b c d same =
    let both = and_parts (a == c) (b == d) same in
    ap (λ x. held_in es x b) (eqb-true a c both.0) ∙ ap (λ x. held_in es c x) (eqb-true b d both.1)

-- the change of what stands at the pair
module _ (change : Transferred → Transferred) where
  put_by : (t : Bool) (es : Entries) (a b c d : ℕ) (v : Transferred) → (a == c) && (b == d) ≡ t → v ≡ change (held_in es a b)
      → unwrap_or (cond t (Some v) (lookup (is_at (pair_cmp (c, d))) es)) none_transferred ≡ (if t then change (held_in es c d) else held_in es c d)
  put_by true es a b c d v same is = is ∙ ap change (held_alike es a b c d same)
  put_by false es a b c d v same is = refl

  -- where the new value is put
  pub held_put : (es gs fs : Entries) (a b : ℕ) (v : Transferred) → gs ≡ es → v ≡ change (held_in es a b) → Puts gs (a, b) v fs
      → held_in fs ≡ (λ c d. if (a == c) && (b == d) then change (held_in es c d) else held_in es c d)
  held_put es gs fs a b v goes is puts =
      λ i c d.
      (ap (λ o. unwrap_or o none_transferred) (puts (c, d) ∙ ap (λ t. cond t (Some v) (lookup (is_at (pair_cmp (c, d))) gs)) (pair_tied a b c d) ∙ ap (λ l. cond ((a == c) && (b == d)) (Some v) (lookup (is_at (pair_cmp (c, d))) l)) goes)
      ∙ put_by ((a == c) && (b == d)) es a b c d v refl is) i

  kept_by : (t : Bool) (es : Entries) (a b c d : ℕ) → (a == c) && (b == d) ≡ t → held_in es a b ≡ change (held_in es a b)
      → held_in es c d ≡ (if t then change (held_in es c d) else held_in es c d)
  kept_by true es a b c d same is = sym (held_alike es a b c d same) ∙ is ∙ ap change (held_alike es a b c d same)
  kept_by false es a b c d same is = refl

  -- where nothing is written
  pub held_kept : (es fs : Entries) (a b : ℕ) → fs ≡ es → held_in es a b ≡ change (held_in es a b)
      → held_in fs ≡ (λ c d. if (a == c) && (b == d) then change (held_in es c d) else held_in es c d)
  held_kept es fs a b goes is = λ i c d. (ap (λ l. held_in l c d) goes ∙ kept_by ((a == c) && (b == d)) es a b c d refl is) i

-- an answer where nothing was asked changes nothing
pub none_answered : (found : Option Transferred) (given : Given) → found ≡ None
    → unwrap_or found none_transferred ≡ with_given (unwrap_or found none_transferred) (Some given)
none_answered None given none = refl
none_answered (Some t) given none = cc

-- what holds anyway holds of what a call returns where it is Ok
pub anyway : {E : Type 0} (result : Result Unit E) (P : Type 0) → P → OnOk result P
anyway (Ok done) P p = p
anyway (Err fault) P p = tt
