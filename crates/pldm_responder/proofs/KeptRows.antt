-- What the rows of kept answers hold once one of them changed or was added.
use Rattle.std.proofs.Common.{◌≡◌, ℕ, zero, suc, ◌+◌, Bool, true, false, ◌||◌, List, [], ◌∷◌, length, Some, None, is_some, IsSome, IfSome, refl, sym, ap, ◌∙◌, subst, arith, eqb-true, eq-eqb}
use Rattle.std.specs.Prelude.{◌==◌, not, take, if◌then◌else◌}
use Rattle.std.specs.List.{insert}
use Rattle.std.proofs.lemmas.Bool.{cond-true, cond-false}
use Rattle.std.proofs.lemmas.List.{length-take, length-map}
use Rattle.std.proofs.lemmas.List.Edits.{length-insert}
use Rattle.std.proofs.lemmas.List.Elements.{All-cons, All-filter, All-map, All-take}
use Rattle.mctp_packet.specs.Ids.{IsEid}
use Rattle.mctp_assembly.specs.NumberLists.{NumberList, Changes, IsGapFor, at}
use Rattle.mctp_assembly.proofs.NumberPlaces.{inserted_at, none_in_gap, rises_inserted}
use Rattle.pldm_responder.specs.Ends.{GetsRow, has_row}
use Rattle.pldm_responder.specs.ResponderStates.{Entry, id_in}
use Rattle.pldm_responder.specs.Recency.{IsApart, of_number, renewed, replaced}
use Rattle.pldm_responder.specs.Slots.{Answers, AreKept, AreKeptTo, IsKept, Rows, answers_in, no_answers, row_of}
use Rattle.pldm_responder.proofs.RecentFirst.{by_test, found_later, none_in_front, none_later, renewed_apart}

-- ---- what is kept to one source
module _ {A : Type 0} (number : A → ℕ) where
  apart_taken : (w : ℕ) (xs : List A) → IsApart number xs → IsApart number (take w xs)
  apart_taken zero xs apart = tt
  apart_taken (suc w) [] apart = tt
  apart_taken (suc w) (x ∷ xs) apart = (none_in_front number (number x) w xs apart.0, apart_taken w xs apart.1)

  same_number : (x y : A) → number (if number y == number x then x else y) ≡ number y
  same_number x y = by_test (number y == number x)
      (λ (same : (number y == number x) ≡ true). ap number (cond-true (number y == number x) x y same) ∙ sym (eqb-true (number y) (number x) same))
      (λ (other : (number y == number x) ≡ false). ap number (cond-false (number y == number x) x y other))

  none_replaced : (x : A) (n : ℕ) (xs : List A) → of_number number n xs ≡ None → of_number number n (replaced number x xs) ≡ None
  none_replaced x n [] none = refl
  none_replaced x n (y ∷ xs) none =
      let parts = none_later number n y xs none in
      found_later number n (if number y == number x then x else y) (replaced number x xs) (ap (λ m. m == n) (same_number x y) ∙ parts.0)
      ∙ none_replaced x n xs parts.1

  apart_replaced : (x : A) (xs : List A) → IsApart number xs → IsApart number (replaced number x xs)
  apart_replaced x [] apart = tt
  apart_replaced x (y ∷ xs) apart =
      (ap (λ n. of_number number n (replaced number x xs)) (same_number x y) ∙ none_replaced x (number y) xs apart.0, apart_replaced x xs apart.1)

  one_of : (P : A → Type 0) (x y : A) → P x → P y → P (if number y == number x then x else y)
  one_of P x y is was = by_test (number y == number x)
      (λ (same : (number y == number x) ≡ true). subst P (sym (cond-true (number y == number x) x y same)) is)
      (λ (other : (number y == number x) ≡ false). subst P (sym (cond-false (number y == number x) x y other)) was)

module _ (window source : ℕ) (old new : Answers) (e : Entry) (are : AreKeptTo window source old) (is : IsKept e) where
  -- an answer is put in front
  pub put_to : new ≡ record { window = old.window; kept = take old.window (renewed id_in e old.kept) } → AreKeptTo window source new
  put_to changed =
      let w = old.window in
      let long = length-take w (renewed id_in e old.kept) in
      let windows = are.windows in
      subst (AreKeptTo window source) (sym changed) (record {
        endpoint = are.endpoint;
        windows = are.windows;
        few = omega (arith, long, windows);
        apart = apart_taken id_in w (renewed id_in e old.kept) (renewed_apart id_in e old.kept are.apart);
        each = All-take IsKept w (renewed id_in e old.kept) (All-cons IsKept e _ is (All-filter (λ y. not (id_in y == id_in e)) IsKept old.kept are.each));
      })

  -- an answer is put in the place of one
  pub replaced_to : new ≡ record { window = old.window; kept = replaced id_in e old.kept } → AreKeptTo window source new
  replaced_to changed =
      let long = length-map old.kept (λ y. if id_in y == id_in e then e else y) in
      let few = are.few in
      subst (AreKeptTo window source) (sym changed) (record {
        endpoint = are.endpoint;
        windows = are.windows;
        few = omega (arith, long, few);
        apart = apart_replaced id_in e old.kept are.apart;
        each = All-map IsKept (λ y. if id_in y == id_in e then e else y) old.kept (λ k d low. one_of id_in IsKept e _ is (are.each k d low));
      })

-- ---- one row changed
module _ (old new : NumberList Answers) (source : ℕ) (before after : Answers) (had : at old source ≡ Some before) (changes : Changes old new source (Some after)) where
  pub kept_after : (f : List Entry → List Entry) → after.kept ≡ f before.kept
      → (other : ℕ) → answers_in (at new other) ≡ (if source == other then f (answers_in (at old other)) else answers_in (at old other))
  kept_after f is other =
      ap answers_in (changes other)
      ∙ by_test (source == other)
      (λ (same : (source == other) ≡ true).
      ap answers_in (cond-true (source == other) (Some after) (at old other) same)
      ∙ is
      ∙ ap (λ o. f (answers_in o)) (sym had ∙ ap (at old) (eqb-true source other same))
      ∙ sym (cond-true (source == other) (f (answers_in (at old other))) (answers_in (at old other)) same))
      (λ (apart : (source == other) ≡ false).
      ap answers_in (cond-false (source == other) (Some after) (at old other) apart)
      ∙ sym (cond-false (source == other) (f (answers_in (at old other))) (answers_in (at old other)) apart))

  pub rows_after : (other : ℕ) → is_some (at new other) ≡ is_some (at old other)
  rows_after other =
      ap is_some (changes other)
      ∙ by_test (source == other)
      (λ (same : (source == other) ≡ true).
      ap is_some (cond-true (source == other) (Some after) (at old other) same ∙ refl)
      ∙ ap is_some (sym had ∙ ap (at old) (eqb-true source other same)))
      (λ (apart : (source == other) ≡ false). ap is_some (cond-false (source == other) (Some after) (at old other) apart))

-- where a source has no row, nothing changes there
pub none_changes : (old : NumberList Answers) (source : ℕ) (f : List Entry → List Entry) → at old source ≡ None → f [] ≡ []
    → (other : ℕ) → answers_in (at old other) ≡ (if source == other then f (answers_in (at old other)) else answers_in (at old other))
none_changes old source f none same other =
    by_test (source == other)
    (λ (it : (source == other) ≡ true).
    let here : at old other ≡ None = ap (at old) (sym (eqb-true source other it)) ∙ none in
    ap answers_in here ∙ sym same ∙ ap (λ o. f (answers_in o)) (sym here) ∙ sym (cond-true (source == other) (f (answers_in (at old other))) (answers_in (at old other)) it))
    (λ (apart : (source == other) ≡ false). sym (cond-false (source == other) (f (answers_in (at old other))) (answers_in (at old other)) apart))

pub each_after : (window : ℕ) (old new : NumberList Answers) (source : ℕ) (after : Answers) → Changes old new source (Some after) → AreKeptTo window source after
    → ((other : ℕ) → IfSome (at old other) (AreKeptTo window other)) → (other : ℕ) → IfSome (at new other) (AreKeptTo window other)
each_after window old new source after changes are each other =
    by_test (source == other)
    (λ (same : (source == other) ≡ true).
    subst (λ o. IfSome o (AreKeptTo window other)) (sym (changes other ∙ cond-true (source == other) (Some after) (at old other) same))
    (subst (λ s. AreKeptTo window s after) (eqb-true source other same) are))
    (λ (apart : (source == other) ≡ false).
    subst (λ o. IfSome o (AreKeptTo window other)) (sym (changes other ∙ cond-false (source == other) (Some after) (at old other) apart)) (each other))

pub kept_at : (window : ℕ) (list : NumberList Answers) (source : ℕ) (row : Answers) → ((other : ℕ) → IfSome (at list other) (AreKeptTo window other)) → at list source ≡ Some row
    → AreKeptTo window source row
kept_at window list source row each is = subst (λ o. IfSome o (AreKeptTo window source)) is (each source)

-- ---- a row is added
module _ (rows : Rows) (source place more : ℕ) (row : Answers) (gap : IsGapFor no_answers rows.list source place) (is_row : row ≡ record { window = rows.window; kept = [] }) where
  abbrev pub added : Rows
  added = record { window = rows.window; places = more; list = insert rows.list place (source, row) }

  none : row_of rows source ≡ None
  none = none_in_gap no_answers rows.list source place gap

  changes : Changes rows.list (insert rows.list place (source, row)) source (Some row)
  changes = inserted_at no_answers rows.list source place gap row

  pub added_kept : IsEid source → AreKept rows → AreKept added
  added_kept endpoint are = record {
    window = are.window;
    rises = rises_inserted no_answers rows.list source place gap row are.rises;
    each = each_after rows.window rows.list added.list source row changes (subst (AreKeptTo rows.window source) (sym is_row) (record {
      endpoint = endpoint;
      windows = refl;
      few = omega arith;
      apart = tt;
      each = λ k d low. absurd (omega (arith, low));
    })) are.each;
  }

  pub added_row : GetsRow source added rows
  added_row = record {
    window = refl;
    kept = λ other. ap answers_in (changes other)
        ∙ by_test (source == other)
        (λ (same : (source == other) ≡ true).
        ap answers_in (cond-true (source == other) (Some row) (row_of rows other) same)
        ∙ ap (λ (r : Answers). r.kept) is_row
        ∙ sym (ap (λ s. answers_in (row_of rows s)) (sym (eqb-true source other same)) ∙ ap answers_in none))
        (λ (apart : (source == other) ≡ false). ap answers_in (cond-false (source == other) (Some row) (row_of rows other) apart));
    rows = λ other. ap is_some (changes other)
        ∙ by_test (source == other)
        (λ (same : (source == other) ≡ true).
        ap is_some (cond-true (source == other) (Some row) (row_of rows other) same)
        ∙ sym ((λ i. has_row rows other || same i) ∙ either_true (has_row rows other)))
        (λ (apart : (source == other) ≡ false).
        ap is_some (cond-false (source == other) (Some row) (row_of rows other) apart)
        ∙ sym ((λ i. has_row rows other || apart i) ∙ either_false (has_row rows other)));
    sources = length-insert rows.list place (source, row) gap.in_range
        ∙ sym (cond-false (has_row rows source) (length rows.list) (length rows.list + 1) (ap is_some none));
  }
    where
      either_true : (b : Bool) → (b || true) ≡ true
      either_true true = refl
      either_true false = refl

      either_false : (b : Bool) → (b || false) ≡ b
      either_false true = refl
      either_false false = refl

  pub added_some : IsSome (row_of added source)
  added_some = ap is_some (changes source ∙ cond-true (source == source) (Some row) (row_of rows source) (eq-eqb source source refl))

-- a source that has a row gets none
pub has_row_already : (rows : Rows) (source : ℕ) → IsSome (row_of rows source) → GetsRow source rows rows
has_row_already rows source some = record {
  window = refl;
  kept = λ other. refl;
  rows = λ other. by_test (source == other)
      (λ (same : (source == other) ≡ true).
      let here : has_row rows other ≡ true = ap (has_row rows) (sym (eqb-true source other same)) ∙ some in
      here ∙ sym (ap (λ b. b || (source == other)) here))
      (λ (apart : (source == other) ≡ false). sym ((λ i. has_row rows other || apart i) ∙ either_false (has_row rows other)));
  sources = sym (cond-true (has_row rows source) (length rows.list) (length rows.list + 1) some);
}
  where
    either_false : (b : Bool) → (b || false) ≡ b
    either_false true = refl
    either_false false = refl
