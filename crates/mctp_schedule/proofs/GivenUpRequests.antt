-- One more request that is given up.
use Rattle.std.proofs.Common.{◌≡◌, ◌⊎◌, ℕ, ◌+◌, ◌<◌, Bool, true, false, List, length, take, Option, Some, None, refl, sym, ap, ◌∙◌, inl, inr, eq-eqb}
use Rattle.std.specs.Prelude.{◌||◌, ◌==◌, option_map, slice_get, slice_set, slice_index_or, if◌then◌else◌}
use Rattle.std.specs.List.{list_any}
use Rattle.std.proofs.lemmas.Bool.{cases_eq, ne_eqb}
use Rattle.std.proofs.lemmas.List.Folds.{list_any_at, list_any_more}
use Rattle.pldm_requester.specs.Courses.{GaveUp}
use Rattle.mctp_schedule.specs.Journals.{progress_after}
use Rattle.mctp_schedule.specs.Requests.{Request, with_progress}
use Rattle.mctp_schedule.proofs.ListPlaces.{get_set_at, get_set_other}

-- a number of the list is below a bound of all of them
pub number_below : (numbers : List ℕ) (bound i : ℕ) → ((n : ℕ) → list_any (λ m. m == n) numbers ≡ true → n < bound) → i < length numbers → slice_index_or numbers i 0 < bound
number_below numbers bound i h within =
    let n = slice_index_or numbers i 0 in
    h n (list_any_at (λ m. m == n) numbers i 0 within (eq-eqb n n refl))

module _ (numbers : List ℕ) (old : List Request) where
  abbrev Given : ℕ → List Request → Type 0
  Given i now = (k : ℕ) → slice_get now k ≡ option_map (progress_after (take i numbers) k) (slice_get old k)

  -- a request that is given up is so, whatever it was
  twice : (b : Bool) (was : Option Request) (r : Request) → Some r ≡ option_map (λ q. if b then with_progress GaveUp q else q) was → Some (with_progress GaveUp r) ≡ option_map (with_progress GaveUp) was
  twice b None r e = absurd (cc)
  twice true (Some q) r e = let same : r ≡ with_progress GaveUp q = cc in ap (λ x. Some (with_progress GaveUp x)) same
  twice false (Some q) r e = let same : r ≡ q = cc in ap (λ x. Some (with_progress GaveUp x)) same

  pub one_more : (i : ℕ) (now : List Request) (r new : Request) → i < length numbers → Given i now → slice_index_or numbers i 0 < length now
      → slice_get now (slice_index_or numbers i 0) ≡ Some r → new ≡ with_progress GaveUp r → Given (i + 1) (slice_set now (slice_index_or numbers i 0) new)
  one_more i now r new within given below here is k = go (cases_eq k n)
    where
      n : ℕ
      n = slice_index_or numbers i 0

      more : (b : Bool) → (n == k) ≡ b → list_any (λ m. m == k) (take (i + 1) numbers) ≡ (list_any (λ m. m == k) (take i numbers) || b)
      more b t = list_any_more (λ m. m == k) numbers i 0 within ∙ ap (λ c. list_any (λ m. m == k) (take i numbers) || c) t

      or_true : (b : Bool) → (b || true) ≡ true
      or_true true = refl
      or_true false = refl

      or_false : (b : Bool) → (b || false) ≡ b
      or_false true = refl
      or_false false = refl

      stands : (b : Bool) → list_any (λ m. m == k) (take (i + 1) numbers) ≡ b → option_map (λ q. if b then with_progress GaveUp q else q) (slice_get old k) ≡ option_map (progress_after (take (i + 1) numbers) k) (slice_get old k)
      stands b t = ap (λ c. option_map (λ (q : Request). if c then with_progress GaveUp q else q) (slice_get old k)) (sym t)

      go : (k ≡ n) ⊎ (k ≡ n → ⊥) → slice_get (slice_set now n new) k ≡ option_map (progress_after (take (i + 1) numbers) k) (slice_get old k)
      go (inl same) =
          let was : Some r ≡ option_map (progress_after (take i numbers) k) (slice_get old k) = sym here ∙ ap (slice_get now) (sym same) ∙ given k in
          let here_now : Some (with_progress GaveUp r) ≡ option_map (with_progress GaveUp) (slice_get old k) = twice (list_any (λ m. m == k) (take i numbers)) (slice_get old k) r was in
          let all : list_any (λ m. m == k) (take (i + 1) numbers) ≡ true = more true (eq-eqb n k (sym same)) ∙ or_true (list_any (λ m. m == k) (take i numbers)) in
          ap (slice_get (slice_set now n new)) same ∙ get_set_at now n new below ∙ ap Some is ∙ here_now ∙ stands true all
      go (inr other) =
          get_set_other now n k new other ∙ given k
          ∙ stands (list_any (λ m. m == k) (take i numbers)) (more false (ne_eqb n k (λ e. other (sym e))) ∙ or_false (list_any (λ m. m == k) (take i numbers)))
