-- The things of a device, listed place by place.
use Rattle.std.proofs.Common.{◌≡◌, ℕ, zero, suc, ◌+◌, ◌<◌, ◌≤◌, List, [], ◌∷◌, ◌++◌, flat_map, get_or, length, take, Option, Some, None, option_map, refl, sym, ap, ◌∙◌, append_assoc, append-nil, subst, arith}
use Rattle.std.specs.Io.KnownBytes.{Appends}
use Rattle.std.proofs.KnownBytes.{Appends-trans}
use Rattle.std.specs.List.{slice_get}
use Rattle.std.specs.List.Sorted.{IsStrictlySortedBy}
use Rattle.std.specs.Ordering.{nat_cmp}
use Rattle.std.specs.Map.{keys_of}
use Rattle.std.proofs.lemmas.Map.Keys.{below_from_sorted}
use Rattle.std.proofs.lemmas.Option.{slice_get-map, slice_get_within, get_or_from_slice_get}
use Rattle.pldm_records.specs.ById.{ById}
use Rattle.simulated_device.specs.Getters.{AscendingIds}

-- what was found, where something made of it is listed
pub record IsMadeOf {A B : Type 0} (f : A → B) (found : Option A) (in_all : B) : Type 0 where
  pub thing : A
  pub found_is : found ≡ Some thing
  pub made : f thing ≡ in_all

pub made_of : {A B : Type 0} (f : A → B) (found : Option A) (in_all : B) → option_map f found ≡ Some in_all → IsMadeOf f found in_all
made_of f None in_all e = let none : None ≡ Some in_all = e in cc
made_of f (Some thing) in_all e =
    let same : Some (f thing) ≡ Some in_all = e in
    record { thing = thing; found_is = refl; made = cc }

none_found : {A B : Type 0} (f : A → B) (found : Option A) → option_map f found ≡ None → found ≡ None
none_found f None e = refl
none_found {A} {B} f (Some thing) e = let some : Some (f thing) ≡ None = e in cc

none_past : {A : Type 0} (things : List A) (place : ℕ) → slice_get things place ≡ None → length things ≤ place
none_past [] place e = omega arith
none_past (first ∷ more) zero e = let some : Some first ≡ None = e in cc
none_past (first ∷ more) (suc place) e = omega (arith, none_past more place e)

-- where nothing is listed of a place, it is past the last one
pub past_last : {A B : Type 0} (f : A → B) (things : List A) (place : ℕ) → option_map f (slice_get things place) ≡ None → length things ≤ place
past_last f things place e = none_past things place (none_found f (slice_get things place) e)

-- the text of one thing more
pub text_further : {A : Type 0} (f : A → List ℕ) (things : List A) (place : ℕ) (thing : A) → slice_get things place ≡ Some thing
    → flat_map f (take (suc place) things) ≡ flat_map f (take place things) ++ f thing
text_further f [] place thing e = let none : None ≡ Some thing = e in cc
text_further f (first ∷ more) zero thing e =
    let said : Some first ≡ Some thing = e in
    let same : first ≡ thing = cc in
    append-nil (f first) ∙ ap f same
text_further f (first ∷ more) (suc place) thing e =
    ap (λ t. f first ++ t) (text_further f more place thing e)
    ∙ sym (append_assoc (f first) (flat_map f (take place more)) (f thing))

-- IDs ascend, so that none is below its place
rank : (ids : List ℕ) (place : ℕ) → IsStrictlySortedBy nat_cmp ids → place < length ids → place ≤ get_or ids place 0
rank ids zero sorted within = omega arith
rank ids (suc place) sorted within =
    omega (arith, rank ids place sorted (omega arith), below_from_sorted ids place (suc place) 0 sorted (omega arith) within)

pub place_below : {X : Type 0} (things : ById X) (place : ℕ) (thing : ℕ × X) → AscendingIds things → slice_get things place ≡ Some thing → place ≤ thing.0
place_below {X} things place thing sorted found =
    let key : slice_get (keys_of things) place ≡ Some thing.0 =
    slice_get-map (λ (e : ℕ × X). e.0) things place ∙ ap (option_map (λ (e : ℕ × X). e.0)) found in
    let within : place < length (keys_of things) = slice_get_within (keys_of things) place thing.0 key in
    let is : get_or (keys_of things) place 0 ≡ thing.0 = get_or_from_slice_get (keys_of things) place thing.0 0 key in
    omega (arith, rank (keys_of things) place sorted within, is)

-- the text so far, written with the line of one thing more
pub written_further : {A : Type 0} (f : A → List ℕ) (things : List A) (place : ℕ) (thing : A) (a b c : Option (List ℕ)) (line : List ℕ)
    → Appends a b (flat_map f (take place things)) → Appends b c line → f thing ≡ line → slice_get things place ≡ Some thing
    → Appends a c (flat_map f (take (place + 1) things))
written_further f things place thing a b c line so_far added made found =
    let one : place + 1 ≡ suc place = omega arith in
    let all =
    ap (λ l. flat_map f (take place things) ++ l) (sym made)
    ∙ sym (text_further f things place thing found) ∙ ap (λ n. flat_map f (take n things)) (sym one) in
    subst (Appends a c) all (Appends-trans a b c (flat_map f (take place things)) line so_far added)

all_taken : {A : Type 0} (things : List A) (place : ℕ) → length things ≤ place → take place things ≡ things
all_taken [] zero past = refl
all_taken [] (suc place) past = refl
all_taken (first ∷ more) zero past = absurd (omega (arith, past))
all_taken (first ∷ more) (suc place) past = ap (λ t. first ∷ t) (all_taken more place (omega (arith, past)))

-- the text of all things, where nothing is listed of the next place
pub listed_to_end : {A B : Type 0} (f : A → List ℕ) (g : A → B) (things : List A) (place : ℕ) (text : List ℕ)
    → text ≡ flat_map f (take place things) → option_map g (slice_get things place) ≡ None → text ≡ flat_map f things
listed_to_end f g things place text so_far none = so_far ∙ ap (flat_map f) (all_taken things place (past_last g things place none))
