-- A record searched by its handle.
use Rattle.std.proofs.Common.{◌≡◌, ℕ, ◌==◌, true, false, List, [], ◌∷◌, Option, Some, None, refl, sym, ap, ◌∙◌, ⊎_elim}
use Rattle.std.proofs.lemmas.Bool.{cases_Bool, eq-eqb, ne_eqb}
use Rattle.std.specs.Option.{is_some, option_map}
use Rattle.pldm_records.specs.Records.{handle_of}
use Rattle.needleoat_wire_c.specs.RecordArrays.{has_handle}
use Rattle.needleoat_wire_c.specs.RecordWalks.{first_record, from_handle, records_in}
use Rattle.needleoat_wire_c.proofs.RecordsWalked.{records_end, records_more}

pub found : (handle : ℕ) (pdr : List ℕ) (front records all : List (List ℕ)) → handle_of pdr ≡ handle → front ≡ pdr ∷ records → from_handle handle front ≡ all → front ≡ all
found handle pdr front records all same is before =
    let test : (handle_of pdr == handle) ≡ true = eq-eqb (handle_of pdr) handle same in
    let here : from_handle handle (pdr ∷ records) ≡ pdr ∷ records = rw test refl in
    is ∙ sym here ∙ ap (from_handle handle) (sym is) ∙ before

pub not_found : (handle : ℕ) (pdr : List ℕ) (front records all : List (List ℕ)) → (handle_of pdr ≡ handle → ⊥) → front ≡ pdr ∷ records → from_handle handle front ≡ all → from_handle handle records ≡ all
not_found handle pdr front records all other is before =
    let test : (handle_of pdr == handle) ≡ false = ne_eqb (handle_of pdr) handle other in
    let later : from_handle handle (pdr ∷ records) ≡ from_handle handle records = rw test refl in
    sym later ∙ ap (from_handle handle) (sym is) ∙ before

pub nowhere : (handle : ℕ) (front all : List (List ℕ)) → front ≡ [] → from_handle handle front ≡ all → front ≡ all
nowhere handle front all is before = is ∙ ap (from_handle handle) (sym is) ∙ before

has_none : (handle : ℕ) (records : List (List ℕ)) → from_handle handle records ≡ [] → has_handle handle records ≡ false
has_none handle [] none = refl
has_none handle (pdr ∷ records) none =
    ⊎_elim
    (λ (is : (handle_of pdr == handle) ≡ true). let here = rw is at none in cc)
    (λ (is : (handle_of pdr == handle) ≡ false). let rest = rw is at none in rw is (has_none handle records rest))
    (cases_Bool (handle_of pdr == handle))

has_some : (handle : ℕ) (records : List (List ℕ)) (pdr : List ℕ) (rest : List (List ℕ)) → from_handle handle records ≡ pdr ∷ rest → has_handle handle records ≡ true
has_some handle [] pdr rest some = cc
has_some handle (first ∷ records) pdr rest some =
    ⊎_elim
    (λ (is : (handle_of first == handle) ≡ true). rw is refl)
    (λ (is : (handle_of first == handle) ≡ false). let later = rw is at some in rw is (has_some handle records pdr rest later))
    (cases_Bool (handle_of first == handle))

has_if : (handle : ℕ) (records : List (List ℕ)) (asked : List ℕ) (first : Option (List ℕ × List ℕ)) → first_record asked ≡ first → records_in asked ≡ from_handle handle records → is_some first ≡ has_handle handle records
has_if handle records asked None none from =
    sym (has_none handle records (sym from ∙ records_end asked none))
has_if handle records asked (Some p) some from =
    sym (has_some handle records p.0 (records_in p.1) (sym from ∙ records_more asked p.0 p.1 some))

some_map : {A B : Type 0} (f : A → B) (o : Option A) → is_some o ≡ is_some (option_map f o)
some_map f None = refl
some_map f (Some x) = refl

pub has_first : {A : Type 0} (f : A → List ℕ × List ℕ) (handle : ℕ) (records : List (List ℕ)) (asked : List ℕ) (o : Option A) → option_map f o ≡ first_record asked → records_in asked ≡ from_handle handle records → is_some o ≡ has_handle handle records
has_first f handle records asked o first from =
    some_map f o ∙ has_if handle records asked (option_map f o) (sym first) from
