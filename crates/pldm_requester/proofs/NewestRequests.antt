-- The last requests before another, and how many of them were answered.
use Rattle.std.proofs.Common.{◌≡◌, ℕ, zero, suc, ◌+◌, ◌-◌, ◌<◌, ◌≤◌, Bool, true, false, cond, List, ◌∷◌, length, refl, sym, ap, ◌∙◌, arith}
use Rattle.std.specs.Prelude.{not, nat_lt, nat_le, filter}
use Rattle.std.proofs.lemmas.Bool.{and_parts, and_from, cond-true, cond-false, ltb-true}
use Rattle.pldm_requester.specs.Courses.{Course, is_answered}
use Rattle.pldm_requester.specs.Pacing.{newest, is_answered_from, answered_after, stride}
use Rattle.pldm_requester.specs.declared.pace.Pace.{Pace}

-- ---- what is looked at alone decides
pub newest_same : {A : Type 0} (f g : ℕ → A) (n most : ℕ) → ((k : ℕ) → k < n → n ≤ k + most → f k ≡ g k) → newest f n most ≡ newest g n most
newest_same f g zero most same = refl
newest_same f g (suc n) zero same = refl
newest_same f g (suc n) (suc most) same =
    let here = same n (omega arith) (omega arith) in
    let rest = newest_same f g n most (λ k l m. same k (omega arith) (omega arith)) in
    λ i. here i ∷ rest i

-- ---- as many pass a test that they pass alike
pub counted_same : (test : Course → Bool) (f g : ℕ → Course) (n most : ℕ) → ((k : ℕ) → k < n → n ≤ k + most → test (f k) ≡ test (g k)) → length (filter test (newest f n most)) ≡ length (filter test (newest g n most))
counted_same test f g zero most same = refl
counted_same test f g (suc n) zero same = refl
counted_same test f g (suc n) (suc most) same =
    go (test (f n)) (test (g n)) (same n (omega arith) (omega arith)) (counted_same test f g n most (λ k l m. same k (omega arith) (omega arith)))
  where
    go : (b c : Bool) → b ≡ c → length (filter test (newest f n most)) ≡ length (filter test (newest g n most))
        → length (cond b (f n ∷ filter test (newest f n most)) (filter test (newest f n most))) ≡ length (cond c (g n ∷ filter test (newest g n most)) (filter test (newest g n most)))
    go true true e l = ap suc l
    go true false e l = absurd (cc)
    go false true e l = absurd (cc)
    go false false e l = l

-- ---- more are answered later
more_counted : (b c : Bool) (x y : Course) (xs ys : List Course) → (b ≡ true → c ≡ true) → length xs ≤ length ys → length (cond b (x ∷ xs) xs) ≤ length (cond c (y ∷ ys) ys)
more_counted true true x y xs ys grows l = omega arith
more_counted true false x y xs ys grows l = let wrong : false ≡ true = grows refl in absurd (cc)
more_counted false true x y xs ys grows l = omega arith
more_counted false false x y xs ys grows l = l

counted_more : (test : Course → Bool) (f g : ℕ → Course) (n most : ℕ) → ((k : ℕ) → k < n → test (f k) ≡ true → test (g k) ≡ true) → length (filter test (newest f n most)) ≤ length (filter test (newest g n most))
counted_more test f g zero most grows = omega arith
counted_more test f g (suc n) zero grows = omega arith
counted_more test f g (suc n) (suc most) grows =
    more_counted (test (f n)) (test (g n)) (f n) (g n) (filter test (newest f n most)) (filter test (newest g n most)) (grows n (omega arith)) (counted_more test f g n most (λ k l. grows k (omega arith)))

answered_from_stays : (start : ℕ) (before after : Course) → after.opening ≡ before.opening → (is_answered before ≡ true → is_answered after ≡ true) → is_answered_from start before ≡ true → is_answered_from start after ≡ true
answered_from_stays start before after same stays e =
    let parts = and_parts (is_answered before) (nat_le start before.opening) e in
    and_from (is_answered after) (nat_le start after.opening) (stays parts.0) (ap (nat_le start) same ∙ parts.1)

pub answered_grows : (pace : Pace) (opening : ℕ) (f g : ℕ → Course) (n most : ℕ) → ((k : ℕ) → (g k).opening ≡ (f k).opening) → ((k : ℕ) → is_answered (f k) ≡ true → is_answered (g k) ≡ true)
    → answered_after pace opening (newest f n most) ≤ answered_after pace opening (newest g n most)
answered_grows pace opening f g n most same stays =
    counted_more (is_answered_from (opening + pace.lifetime)) f g n most (λ k l. answered_from_stays (opening + pace.lifetime) (f k) (g k) (same k) (stays k))

-- ---- one more is looked at
newest_more : {A : Type 0} (f : ℕ → A) (low n next most : ℕ) → low ≤ n → next ≡ n + 1 → most ≡ next - low → newest f next most ≡ f n ∷ newest f n (n - low)
newest_more f low n next most l e m = go next most e (m ∙ (let x : next - low ≡ suc (n - low) = omega arith in x))
  where
    go : (p q : ℕ) → p ≡ n + 1 → q ≡ suc (n - low) → newest f p q ≡ f n ∷ newest f n (n - low)
    go p q e m = ap (λ k. newest f k q) (e ∙ (let x : n + 1 ≡ suc n = omega arith in x)) ∙ ap (newest f (suc n)) m

-- so many numbers are looked at, and one more
module _ (test : Course → Bool) (f : ℕ → Course) (low number answered : ℕ) (le : low ≤ number) (before : answered ≡ length (filter test (newest f number (number - low)))) where
  abbrev seen : List Course
  seen = newest f number (number - low)

  now : newest f (number + 1) (number + 1 - low) ≡ f number ∷ seen
  now = newest_more f low number (number + 1) (number + 1 - low) le refl refl

  pub counted_one : test (f number) ≡ true → answered + 1 ≡ length (filter test (newest f (number + 1) (number + 1 - low)))
  counted_one t =
      let more : answered + 1 ≡ suc (length (filter test seen)) = omega (arith, before) in
      more ∙ sym (ap length (cond-true (test (f number)) (f number ∷ filter test seen) (filter test seen) t)) ∙ sym (ap (λ xs. length (filter test xs)) now)

  pub counted_none : test (f number) ≡ false → answered ≡ length (filter test (newest f (number + 1) (number + 1 - low)))
  counted_none t =
      before ∙ sym (ap length (cond-false (test (f number)) (f number ∷ filter test seen) (filter test seen) t)) ∙ sym (ap (λ xs. length (filter test xs)) now)

-- where all are looked at, it does not matter how many are wanted
pub newest_all : {A : Type 0} (f : ℕ → A) (n most more : ℕ) → n ≤ most → n ≤ more → newest f n most ≡ newest f n more
newest_all f zero most more l m = refl
newest_all f (suc n) zero more l m = absurd (omega arith)
newest_all f (suc n) (suc most) zero l m = absurd (omega arith)
newest_all f (suc n) (suc most) (suc more) l m = ap (λ xs. f n ∷ xs) (newest_all f n most more (omega arith) (omega arith))

-- ---- a stride is less than all instance IDs
stride_by : (spread less : Bool) (others : ℕ) → (less ≡ true → others < 16) → cond (not spread) 0 (cond less others 16) ≤ 16
stride_by true true others l = let x = l refl in omega arith
stride_by true false others l = omega arith
stride_by false less others l = omega arith

pub stride_range : (pace : Pace) → stride pace ≤ 16
stride_range pace = stride_by pace.spread (nat_lt (32 - pace.window) 16) (32 - pace.window) (ltb-true (32 - pace.window) 16)
