-- The keys of the answers on two tags are the same where the tags are.
use Rattle.std.proofs.Common.{◌≡◌, ◌⊎◌, ℕ, true, false, cond, refl, ap, ◌∙◌, inl, inr, eq-eqb, arith}
use Rattle.std.specs.Prelude.{◌==◌, nat_lt}
use Rattle.std.specs.Ordering.{eq_by_cmp, is_eq, nat_cmp, ordering_then, bool_cmp}
use Rattle.std.specs.declared.cmp.Ordering.TheVariants.{Less, Equal, Greater}
use Rattle.std.proofs.lemmas.Bool.{cond-true, cond-false, cases_Bool, le-ltb, ne_eqb}
use Rattle.mctp_assembly.specs.Keys.{key_cmp}
use Rattle.pldm_requester.specs.Calls.{answer_key}

level : (n : ℕ) → nat_cmp n n ≡ Equal
level n =
    cond-false (nat_lt n n) Less (cond (n == n) Equal Greater) (le-ltb n n (omega arith)) ∙ cond-true (n == n) Equal Greater (eq-eqb n n refl)

pub same_key : (device tag : ℕ) → eq_by_cmp key_cmp (answer_key device tag) (answer_key device tag) ≡ true
same_key device tag =
    ap is_eq (ap (λ o. ordering_then o (ordering_then (nat_cmp tag tag) (bool_cmp false false))) (level device) ∙ ap (λ o. ordering_then o (bool_cmp false false)) (level tag))

unlike : (a b : ℕ) → (a ≡ b → ⊥) → (nat_cmp a b ≡ Less) ⊎ (nat_cmp a b ≡ Greater)
unlike a b h = go (cases_Bool (nat_lt a b))
  where
    go : (nat_lt a b ≡ true) ⊎ (nat_lt a b ≡ false) → (nat_cmp a b ≡ Less) ⊎ (nat_cmp a b ≡ Greater)
    go (inl e) = inl (cond-true (nat_lt a b) Less (cond (a == b) Equal Greater) e)
    go (inr e) = inr (cond-false (nat_lt a b) Less (cond (a == b) Equal Greater) e ∙ cond-false (a == b) Equal Greater (ne_eqb a b h))

pub other_key : (device tag other : ℕ) → (tag ≡ other → ⊥) → eq_by_cmp key_cmp (answer_key device tag) (answer_key device other) ≡ false
other_key device tag other h =
    ap (λ o. is_eq (ordering_then o (ordering_then (nat_cmp tag other) (bool_cmp false false)))) (level device) ∙ go (unlike tag other h)
  where
    go : (nat_cmp tag other ≡ Less) ⊎ (nat_cmp tag other ≡ Greater) → is_eq (ordering_then (nat_cmp tag other) (bool_cmp false false)) ≡ false
    go (inl e) = ap (λ o. is_eq (ordering_then o (bool_cmp false false))) e
    go (inr e) = ap (λ o. is_eq (ordering_then o (bool_cmp false false))) e
