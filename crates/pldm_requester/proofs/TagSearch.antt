-- The search for the request that is open on a tag.
use Rattle.std.proofs.Common.{◌≡◌, ◌⊎◌, ℕ, zero, suc, ◌+◌, ◌-◌, ◌%◌, ◌<◌, ◌≤◌, Bool, true, false, cond, Some, None, refl, sym, ap, ◌∙◌, inl, inr, arith, eq-eqb, eqb-true}
use Rattle.std.specs.Prelude.{◌&&◌, ◌==◌, nat_lt}
use Rattle.std.proofs.lemmas.Bool.{and_left, and_right, and_parts, cases_eq, cond-false, ne_eqb, ltb-true, ltb-false}
use Rattle.pldm_requester.specs.Calls.{is_open_at, open_on, requests}
use Rattle.pldm_requester.specs.Laws.{FoundOnItsTag}
use Rattle.pldm_requester.specs.Numbering.{tag_of}
use Rattle.pldm_requester.specs.Steps.{latest_on, where_open}
use Rattle.pldm_requester.proofs.OpenRequests.{recent}

-- ---- where only the last eight can be open
module _ (opens : ℕ → Bool) (count : ℕ) (closed : (n : ℕ) → n + 8 < count → opens n ≡ false) where
  none_before : (number : ℕ) → number < count → (c : ℕ) → c ≤ number → open_on opens c (tag_of number) ≡ None
  none_before number l zero h = refl
  none_before number l (suc c) h =
      cond-false (tag_of c == tag_of number && opens c) _ _ (test (cases_eq (tag_of c) (tag_of number))) ∙ none_before number l c (omega arith)
    where
      test : (tag_of c ≡ tag_of number) ⊎ (tag_of c ≡ tag_of number → ⊥) → (tag_of c == tag_of number && opens c) ≡ false
      test (inl e) = and_right (tag_of c == tag_of number) _ (closed c (omega arith))
      test (inr ne) = and_left (tag_of c == tag_of number) _ (ne_eqb _ _ ne)

  found_from : (number : ℕ) → number < count → count ≤ number + 8 → (c : ℕ) → number < c → c ≤ count → open_on opens c (tag_of number) ≡ cond (opens number) (Some number) None
  found_from number l near zero g h = absurd (omega arith)
  found_from number l near (suc c) g h = step (cases_eq c number) (λ lower. found_from number l near c lower (omega arith))
    where
      at : (b : Bool) → cond (true && b) (Some number) None ≡ cond b (Some number) None
      at true = refl
      at false = refl

      step : (c ≡ number) ⊎ (c ≡ number → ⊥) → (number < c → open_on opens c (tag_of number) ≡ cond (opens number) (Some number) None)
          → cond (tag_of c == tag_of number && opens c) (Some c) (open_on opens c (tag_of number)) ≡ cond (opens number) (Some number) None
      step (inl same) rest =
          ap (λ o. cond (tag_of c == tag_of number && opens c) (Some c) o) (none_before number l c (omega arith))
          ∙ ap (λ i. cond (tag_of i == tag_of number && opens i) (Some i) None) same
          ∙ ap (λ b. cond (b && opens number) (Some number) None) (eq-eqb (tag_of number) (tag_of number) refl)
          ∙ at (opens number)
      step (inr other) rest =
          cond-false (tag_of c == tag_of number && opens c) _ _ (and_left (tag_of c == tag_of number) _ (ne_eqb _ _ (λ e. absurd (omega arith)))) ∙ rest (omega arith)

  pub found : (number : ℕ) → number < count → count ≤ number + 8 → open_on opens count (tag_of number) ≡ cond (opens number) (Some number) None
  found number l near = found_from number l near count l (omega arith)

  -- no number below a tag has it
  none_low : (tag : ℕ) → tag < 8 → (c : ℕ) → c ≤ tag → open_on opens c tag ≡ None
  none_low tag small zero h = refl
  none_low tag small (suc c) h =
      cond-false (tag_of c == tag && opens c) _ _ (and_left (tag_of c == tag) _ (ne_eqb _ _ (λ e. absurd (omega arith)))) ∙ none_low tag small c (omega arith)

  pub latest_is : (tag : ℕ) → tag < 8 → where_open opens (latest_on count tag) ≡ open_on opens count tag
  latest_is tag small = go (nat_lt tag count) refl
    where
      go : (b : Bool) → nat_lt tag count ≡ b → where_open opens (cond b (Some (count - 1 - (count - 1 - tag) % 8)) None) ≡ open_on opens count tag
      go true e =
          let some = ltb-true tag count e in
          let same : tag_of (count - 1 - (count - 1 - tag) % 8) ≡ tag = omega arith in
          sym (found (count - 1 - (count - 1 - tag) % 8) (omega arith) (omega arith)) ∙ ap (open_on opens count) same
      go false e = sym (none_low tag small count (ltb-false tag count e))

pub found_on_its_tag : FoundOnItsTag
found_on_its_tag own device timing pace calls number l near =
    let a = requests own device timing pace calls in found (is_open_at a) a.count (recent own device timing pace calls).closed number l near

-- ---- what is found is open, and has the tag
pub open_on_some : (opens : ℕ → Bool) (c tag n : ℕ) → open_on opens c tag ≡ Some n → (opens n ≡ true) × (tag_of n ≡ tag)
open_on_some opens zero tag n e = absurd (cc)
open_on_some opens (suc c) tag n e = go (tag_of c == tag && opens c) refl (open_on_some opens c tag n) e
  where
    here : (tag_of c == tag && opens c) ≡ true → c ≡ n → (opens n ≡ true) × (tag_of n ≡ tag)
    here t same =
        let parts = and_parts (tag_of c == tag) (opens c) t in
        (ap opens (sym same) ∙ parts.1, ap tag_of (sym same) ∙ eqb-true (tag_of c) tag parts.0)

    go : (b : Bool) → (tag_of c == tag && opens c) ≡ b → (open_on opens c tag ≡ Some n → (opens n ≡ true) × (tag_of n ≡ tag)) → cond b (Some c) (open_on opens c tag) ≡ Some n → (opens n ≡ true) × (tag_of n ≡ tag)
    go true t rest e = here t (cc)
    go false t rest e = rest e
