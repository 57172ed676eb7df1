-- Things that are passed one after the other, and the one at a place.
use Rattle.std.proofs.Common.{◌≡◌, ℕ, zero, suc, ◌-◌, ◌+◌, ◌≤◌, ◌<◌, List, slice_get, None, Some, arith, refl}
use Rattle.mctpctl_decode.specs.NameTexts.{after_each, after_name, each_of, name_of, units_of, after_tag}
use Rattle.mctpctl_table.specs.Names.{first_units}

-- one more is passed
pub passed : (after : List ℕ → List ℕ) (count i : ℕ) (bytes rest last : List ℕ)
    → i < count → rest ≡ after bytes → after_each after (count - i) bytes ≡ last
    → after_each after (count - (i + 1)) rest ≡ last
passed after count i bytes rest last lt is_rest before =
    let k : count - i ≡ suc (count - (i + 1)) = omega arith in
    rw is_rest (rw k at before)

-- none is left
pub all_passed : (after : List ℕ → List ℕ) (count i : ℕ) (bytes last : List ℕ)
    → count ≤ i → after_each after (count - i) bytes ≡ last → bytes ≡ last
all_passed after count i bytes last le before =
    let k : count - i ≡ 0 = omega arith in
    rw k at before

-- the one at a place is read where those before it end
pub one_at : {A : Type 0} (one : List ℕ → A) (after : List ℕ → List ℕ) (count place : ℕ) (bytes : List ℕ)
    → place < count → slice_get (each_of one after count bytes) place ≡ Some (one (after_each after place bytes))
one_at one after zero place bytes lt = absurd (omega (arith, lt))
one_at one after (suc count) zero bytes lt = refl
one_at one after (suc count) (suc place) bytes lt =
    let less : place < count = omega (arith, lt) in
    one_at one after count place (after bytes) less

pub none_at : {A : Type 0} (one : List ℕ → A) (after : List ℕ → List ℕ) (count place : ℕ) (bytes : List ℕ)
    → count ≤ place → slice_get (each_of one after count bytes) place ≡ None
none_at one after zero place bytes le = refl
none_at one after (suc count) zero bytes le = absurd (omega (arith, le))
none_at one after (suc count) (suc place) bytes le =
    let less : count ≤ place = omega (arith, le) in
    none_at one after count place (after bytes) less

-- the first name
pub first_name : (count : ℕ) (bytes : List ℕ) → 0 < count
    → first_units (Some (each_of name_of after_name count bytes)) ≡ units_of (after_tag bytes)
first_name zero bytes lt = absurd (omega (arith, lt))
first_name (suc count) bytes lt = refl
