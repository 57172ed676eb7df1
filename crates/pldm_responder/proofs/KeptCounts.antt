-- How many answers the rows keep: one for each pair of a source and an instance ID that has one.
use Rattle.std.proofs.Common.{◌≡◌, ℕ, suc, ◌+◌, ◌*◌, ◌≤◌, Bool, true, false, ◌&&◌, ◌||◌, List, [], ◌∷◌, ◌++◌, length, Some, None, is_some, IfSome, refl, sym, ap, ◌∙◌, subst, arith, eqb-true, eq-eqb, length-append}
use Rattle.std.specs.Prelude.{◌==◌, map}
use Rattle.std.specs.List.{IsDistinct, flat_map, list_any, sum_by}
use Rattle.std.proofs.lemmas.Bool.{cond-true, cond-false}
use Rattle.std.proofs.lemmas.List.{length-map}
use Rattle.std.proofs.lemmas.List.Folds.{list_any-append}
use Rattle.std.proofs.lemmas.List.Sums.{sum_by-cons}
use Rattle.mctp_assembly.specs.NumberLists.{NumberList, Rises, at}
use Rattle.mctp_assembly.proofs.NumberLookups.{absent}
use Rattle.pldm_responder.specs.Counts.{CountsKept, is_pair}
use Rattle.pldm_responder.specs.ResponderStates.{Entry, id_in}
use Rattle.pldm_responder.specs.Recency.{IsApart, of_number}
use Rattle.pldm_responder.specs.Slots.{Answers, AreKept, AreKeptTo, Rows, answers_in, entry_in, no_answers, source_count}
use Rattle.pldm_responder.proofs.CountedPairs.{none_any}
use Rattle.pldm_responder.proofs.RecentFirst.{by_test, found_here, found_later}

-- ---- the rows, one after the other
abbrev pub Each : ℕ → NumberList Answers → Type 0
Each window list = (source : ℕ) → IfSome (at list source) (AreKeptTo window source)

-- no source comes again, and each has answers of its own
pub AllRows : ℕ → NumberList Answers → Type 0
AllRows window [] = Unit {0}
AllRows window (row ∷ rest) = (at rest row.0 ≡ None) × AreKeptTo window row.0 row.1 × AllRows window rest

tail_rises : (row : ℕ × Answers) (rest : NumberList Answers) → Rises no_answers (row ∷ rest) → Rises no_answers rest
tail_rises row rest rises i j lt low = rises (suc i) (suc j) (omega arith) (omega arith)

first_alone : (row : ℕ × Answers) (rest : NumberList Answers) → Rises no_answers (row ∷ rest) → at rest row.0 ≡ None
first_alone row rest rises = absent no_answers rest row.0 (λ j lt same. let later = rises 0 (suc j) (omega arith) (omega arith) in omega (arith, later, same))

pub all_rows : (window : ℕ) (list : NumberList Answers) → Rises no_answers list → Each window list → AllRows window list
unfolding AllRows
all_rows window [] rises each = tt
all_rows window (row ∷ rest) rises each =
    let alone = first_alone row rest rises in
    let here : at (row ∷ rest) row.0 ≡ Some row.1 = cond-true (row.0 == row.0) (Some row.1) (at rest row.0) (eq-eqb row.0 row.0 refl) in
    let later : Each window rest = λ source. by_test (row.0 == source)
    (λ (same : (row.0 == source) ≡ true).
    subst (λ o. IfSome o (AreKeptTo window source)) (sym (ap (at rest) (sym (eqb-true row.0 source same)) ∙ alone)) tt)
    (λ (other : (row.0 == source) ≡ false).
    subst (λ o. IfSome o (AreKeptTo window source)) (cond-false (row.0 == source) (Some row.1) (at rest source) other) (each source)) in
    (alone, subst (λ o. IfSome o (AreKeptTo window row.0)) here (each row.0), all_rows window rest (tail_rises row rest rises) later)

-- ---- the pairs
pub pairs_of : ℕ × Answers → List (ℕ × ℕ)
pairs_of row = map (λ e. (row.0, id_in e)) row.1.kept

abbrev is_it : ℕ → ℕ → ℕ × ℕ → Bool
is_it source id pair = is_pair pair (source, id)

abbrev both : Bool → Bool → Bool
both a b = a && b

-- among those of one source
any_here : (source id : ℕ) (kept : List Entry) → list_any (is_it source id) (map (λ e. (source, id_in e)) kept) ≡ is_some (of_number id_in id kept)
any_here source id [] = refl
any_here source id (e ∷ kept) =
    let itself = eq-eqb source source refl in
    let later = any_here source id kept in
    by_test (id_in e == id)
    (λ (same : (id_in e == id) ≡ true).
    (λ i. both (itself i) (same i) || later i) ∙ sym (ap is_some (found_here id_in id e kept same)))
    (λ (other : (id_in e == id) ≡ false).
    (λ i. both (itself i) (other i) || later i) ∙ sym (ap is_some (found_later id_in id e kept other)))

none_here : (other source id : ℕ) (kept : List Entry) → (other == source) ≡ false → list_any (is_it source id) (map (λ e. (other, id_in e)) kept) ≡ false
none_here other source id [] apart = refl
none_here other source id (e ∷ kept) apart = λ i. both (apart i) (id_in e == id) || none_here other source id kept apart i

pub all_pairs : NumberList Answers → List (ℕ × ℕ)
all_pairs list = flat_map pairs_of list

any_of : (window source id : ℕ) (list : NumberList Answers) → AllRows window list → list_any (is_it source id) (all_pairs list) ≡ is_some (of_number id_in id (answers_in (at list source)))
unfolding AllRows pairs_of all_pairs
any_of window source id [] are = refl
any_of window source id (row ∷ rest) are =
    let later = any_of window source id rest are.2 in
    list_any-append (is_it source id) (pairs_of row) (all_pairs rest)
    ∙ by_test (row.0 == source)
    (λ (same : (row.0 == source) ≡ true).
    let it = eqb-true row.0 source same in
    let alone : at rest source ≡ None = ap (at rest) (sym it) ∙ are.0 in
    let here = ap (λ n. list_any (is_it source id) (map (λ e. (n, id_in e)) row.1.kept)) it ∙ any_here source id row.1.kept in
    let nothing : list_any (is_it source id) (all_pairs rest) ≡ false = later ∙ ap (λ o. is_some (of_number id_in id (answers_in o))) alone in
    (λ i. here i || nothing i)
    ∙ either_false (is_some (of_number id_in id row.1.kept))
    ∙ sym (ap (λ o. is_some (of_number id_in id (answers_in o))) (cond-true (row.0 == source) (Some row.1) (at rest source) same)))
    (λ (other : (row.0 == source) ≡ false).
    (λ i. none_here row.0 source id row.1.kept other i || later i)
    ∙ sym (ap (λ o. is_some (of_number id_in id (answers_in o))) (cond-false (row.0 == source) (Some row.1) (at rest source) other)))
  where
    either_false : (b : Bool) → (b || false) ≡ b
    either_false true = refl
    either_false false = refl

-- each comes once
row_distinct : (source : ℕ) (kept : List Entry) (rest : List (ℕ × ℕ)) → IsApart id_in kept → ((id : ℕ) → list_any (is_it source id) rest ≡ false) → IsDistinct is_pair rest
    → IsDistinct is_pair (map (λ e. (source, id_in e)) kept ++ rest)
unfolding IsDistinct
row_distinct source [] rest apart none distinct = distinct
row_distinct source (e ∷ kept) rest apart none distinct =
    let pairs = map (λ f. (source, id_in f)) kept in
    let here : list_any (is_it source (id_in e)) pairs ≡ false = any_here source (id_in e) kept ∙ ap is_some apart.0 in
    let nowhere : list_any (is_it source (id_in e)) (pairs ++ rest) ≡ false = list_any-append (is_it source (id_in e)) pairs rest ∙ (λ i. here i || none (id_in e) i) in
    (none_any (source, id_in e) (pairs ++ rest) (sym nowhere), row_distinct source kept rest apart.1 none distinct)

distinct : (window : ℕ) (list : NumberList Answers) → AllRows window list → IsDistinct is_pair (all_pairs list)
unfolding IsDistinct AllRows pairs_of all_pairs
distinct window [] are = tt
distinct window (row ∷ rest) are =
    row_distinct row.0 row.1.kept (all_pairs rest) are.1.apart
    (λ id. any_of window row.0 id rest are.2 ∙ ap (λ o. is_some (of_number id_in id (answers_in o))) are.0) (distinct window rest are.2)

-- ---- how many there are
abbrev pub kept_count : ℕ × Answers → ℕ
kept_count row = length row.1.kept

count_is : (list : NumberList Answers) → sum_by kept_count list ≡ length (all_pairs list)
unfolding pairs_of all_pairs
count_is [] = refl
count_is (row ∷ rest) =
    let more = sum_by-cons kept_count row rest in
    let later = count_is rest in
    let here : length (pairs_of row) ≡ kept_count row = length-map row.1.kept (λ e. (row.0, id_in e)) in
    let long : length (all_pairs (row ∷ rest)) ≡ length (pairs_of row) + length (all_pairs rest) = length-append (pairs_of row) (all_pairs rest) in
    omega (arith, more, later, here, long)

pub counts_kept : (rows : Rows) (count : ℕ) → AreKept rows → count ≡ sum_by kept_count rows.list → CountsKept (entry_in rows) count
counts_kept rows count are is =
    let all = all_rows rows.window rows.list are.rises are.each in
    record {
      pairs = all_pairs rows.list;
      each = λ source id. sym (any_of rows.window source id rows.list all);
      once = distinct rows.window rows.list all;
      all = is ∙ count_is rows.list;
    }

few_rows : (window : ℕ) (list : NumberList Answers) → AllRows window list → sum_by kept_count list ≤ window * length list
unfolding AllRows
few_rows window [] are = omega arith
few_rows window (row ∷ rest) are =
    let more = sum_by-cons kept_count row rest in
    let later = few_rows window rest are.2 in
    let few = are.1.few in
    omega (arith, more, later, few)

pub few_kept : (rows : Rows) → AreKept rows → sum_by kept_count rows.list ≤ rows.window * source_count rows
few_kept rows are = few_rows rows.window rows.list (all_rows rows.window rows.list are.rises are.each)
