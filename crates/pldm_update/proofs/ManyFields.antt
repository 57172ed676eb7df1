-- Items one after another, as a loop passes them and an iterator gives them.
use Rattle.std.proofs.Common.{◌≡◌, ℕ, suc, ◌-◌, ◌+◌, ◌≤◌, ◌<◌, List, [], ◌∷◌, Result, Ok, Err, IsOk, refl, sym, ap, subst, ◌∙◌, arith}
use Rattle.pldm_update.specs.declared.package_fault.PackageFault.{PackageFault}
use Rattle.pldm_update.specs.PackageFields.{and_then, Field, many_at, items_of, rest_of}

abbrev done : {A : Type 0} → A → Result A PackageFault
done x = Ok x

ok_is : {A : Type 0} {x y : A} → done x ≡ done y → x ≡ y
ok_is e = cc

rest_with : {A : Type 0} (first : A) (others : Field (List A)) → rest_of (and_then others (λ o. Ok (first ∷ o.0, o.1))) ≡ rest_of others
unfolding and_then rest_of
rest_with first (Ok o) = refl
rest_with first (Err fault) = refl

-- one more item was passed
pub passed : {A : Type 0} (item_at : List ℕ → Field A) (count i : ℕ) (bytes rest : List ℕ) (item : A) (total : Result (List ℕ) PackageFault) → i < count → item_at bytes ≡ Ok (item, rest)
    → rest_of (many_at item_at (count - i) bytes) ≡ total → rest_of (many_at item_at (count - (i + 1)) rest) ≡ total
unfolding many_at and_then
passed item_at count i bytes rest item total lt is so_far =
    let k : count - i ≡ suc (count - (i + 1)) = omega arith in
    let one : rest_of (many_at item_at (count - i) bytes) ≡ rest_of (many_at item_at (count - (i + 1)) rest) = rw (k, is) (rest_with item (many_at item_at (count - (i + 1)) rest)) in
    sym one ∙ so_far

-- an item failed
failed_is : {A : Type 0} (read : Field (List A)) (fault : PackageFault) → rest_of read ≡ Err fault → read ≡ Err fault
unfolding rest_of
failed_is (Ok x) fault e = absurd cc
failed_is (Err other) fault e = cc

pub failed : {A : Type 0} (item_at : List ℕ → Field A) (count i : ℕ) (bytes : List ℕ) (fault : PackageFault) (read : Field (List A)) → i < count → item_at bytes ≡ Err fault
    → rest_of (many_at item_at (count - i) bytes) ≡ rest_of read → read ≡ Err fault
unfolding many_at and_then rest_of
failed item_at count i bytes fault read lt is so_far =
    let k : count - i ≡ suc (count - (i + 1)) = omega arith in
    let one : rest_of (many_at item_at (count - i) bytes) ≡ Err fault = rw (k, is) refl in
    failed_is read fault (sym so_far ∙ one)

-- all were passed
all_are : {A : Type 0} (read : Field (List A)) (rest : List ℕ) → rest_of read ≡ Ok rest → read ≡ Ok (items_of read, rest)
unfolding rest_of items_of
all_are (Ok x) rest e = ap (λ (r : List ℕ). Ok (x.0, r)) (ok_is e)
all_are (Err fault) rest e = absurd cc

pub all_passed : {A : Type 0} (item_at : List ℕ → Field A) (count i : ℕ) (bytes : List ℕ) (read : Field (List A)) → count ≤ i
    → rest_of (many_at item_at (count - i) bytes) ≡ rest_of read → read ≡ Ok (items_of read, bytes)
unfolding many_at rest_of
all_passed item_at count i bytes read le so_far =
    let k : count - i ≡ 0 = omega arith in
    let one : rest_of (many_at item_at (count - i) bytes) ≡ Ok bytes = rw k refl in
    all_are read bytes (sym so_far ∙ one)

-- an item that is left can be read, and so can the others
abbrev put : {A : Type 0} → A → Field (List A) → Field (List A)
put first others = and_then others (λ o. Ok (first ∷ o.0, o.1))

tail_ok : {A : Type 0} (first : A) (others : Field (List A)) → IsOk (put first others) → IsOk others × (items_of (put first others) ≡ first ∷ items_of others)
unfolding and_then items_of
tail_ok first (Ok o) h = (refl, refl)
tail_ok first (Err fault) h = absurd cc

first_item : {A : Type 0} (item_at : List ℕ → Field A) (count : ℕ) (bytes rest : List ℕ) (item : A) → item_at bytes ≡ Ok (item, rest) → many_at item_at (suc count) bytes ≡ put item (many_at item_at count rest)
unfolding many_at and_then
first_item item_at count bytes rest item is = rw is refl

pub next_item : {A : Type 0} (item_at : List ℕ → Field A) (count : ℕ) (bytes rest : List ℕ) (item : A) → 0 < count → item_at bytes ≡ Ok (item, rest) → IsOk (many_at item_at count bytes)
    → IsOk (many_at item_at (count - 1) rest) × (items_of (many_at item_at count bytes) ≡ item ∷ items_of (many_at item_at (count - 1) rest))
next_item {A = A} item_at count bytes rest item some is ok =
    let k : count ≡ suc (count - 1) = omega arith in
    let read : many_at item_at count bytes ≡ put item (many_at item_at (count - 1) rest) =
    ap (λ (n : ℕ). many_at item_at n bytes) k ∙ first_item item_at (count - 1) bytes rest item is in
    let split = tail_ok item (many_at item_at (count - 1) rest) (subst (λ (r : Field (List A)). IsOk r) read ok) in
    (split.0, ap items_of read ∙ split.1)

refuted : {A : Type 0} (read : Field (List A)) (fault : PackageFault) → read ≡ Err fault → IsOk read → ⊥
refuted (Ok x) fault e ok = absurd cc
refuted (Err other) fault e ok = absurd cc

pub no_fault : {A : Type 0} (item_at : List ℕ → Field A) (count : ℕ) (bytes : List ℕ) (fault : PackageFault) → 0 < count → item_at bytes ≡ Err fault → IsOk (many_at item_at count bytes) → ⊥
unfolding many_at and_then
no_fault {A = A} item_at count bytes fault some is ok =
    let k : count ≡ suc (count - 1) = omega arith in
    let read : many_at item_at count bytes ≡ Err fault = rw (k, is) refl in
    refuted (many_at item_at count bytes) fault read ok

pub no_items : {A : Type 0} (item_at : List ℕ → Field A) (count : ℕ) (bytes : List ℕ) → count ≡ 0 → items_of (many_at item_at count bytes) ≡ []
unfolding many_at items_of
no_items item_at count bytes h = rw h refl

pub is_ok : {A : Type 0} (read : Field (List A)) (x : List A × List ℕ) → read ≡ Ok x → IsOk read
is_ok (Ok y) x e = refl
is_ok (Err fault) x e = absurd cc
