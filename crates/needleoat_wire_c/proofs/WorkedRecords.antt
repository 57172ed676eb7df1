-- The definitions computed on structs and arrays: which record a struct is, and what an array of records has.
use Rattle.std.proofs.Common.{◌≡◌, ℕ, true, false, List, [], ◌∷◌, ◌++◌, Some, None, refl}
use Rattle.needleoat_wire_c.specs.RecordArrays.{have_own_handles}
use Rattle.needleoat_wire_c.specs.RecordForms.{bytes_in_room, terminus_locator_record}
use Rattle.needleoat_wire_c.specs.RecordWalks.{left_after, left_in, records_after, records_in}
use Rattle.needleoat_wire_c.specs.declared.record_forms.TerminusLocatorFields.{TerminusLocatorFields}

-- the terminus 2 of the TID 5, at the endpoint ID 9
abbrev locator : TerminusLocatorFields
locator = record {
  record_handle = 1;
  change_number = 0;
  terminus_handle = 2;
  container_id = 100;
  is_valid = 1;
  tid = 5;
  eid = 9;
}

abbrev locator_bytes : List ℕ
locator_bytes =
    1 ∷ 0 ∷ 0 ∷ 0 ∷ 1 ∷ 1 ∷ 0 ∷ 0 ∷ 9 ∷ 0 ∷ 2 ∷ 0 ∷ 1 ∷ 5 ∷ 100 ∷ 0 ∷ 1 ∷ 1 ∷ 9 ∷ []

is_written : bytes_in_room 19 (terminus_locator_record locator) ≡ Some locator_bytes
is_written = refl

has_no_room : bytes_in_room 18 (terminus_locator_record locator) ≡ None
has_no_room = refl

handle_of_none : terminus_locator_record (record locator { record_handle = 0 }) ≡ None
handle_of_none = refl

flag_of_two : terminus_locator_record (record locator { is_valid = 2 }) ≡ None
flag_of_two = refl

-- a record whose header counts no data
abbrev bare : ℕ → List ℕ
bare handle = handle ∷ 0 ∷ 0 ∷ 0 ∷ 1 ∷ 64 ∷ 0 ∷ 0 ∷ 0 ∷ 0 ∷ []

two : records_in (bare 7 ++ locator_bytes) ≡ bare 7 ∷ locator_bytes ∷ []
unfolding records_in records_after
two = refl

nothing_left : left_in (bare 7 ++ locator_bytes) ≡ []
unfolding left_in left_after
nothing_left = refl

cut_short : left_in (bare 7 ++ 1 ∷ 0 ∷ 0 ∷ 0 ∷ 1 ∷ 1 ∷ 0 ∷ 0 ∷ 1 ∷ 0 ∷ []) ≡ 1 ∷ 0 ∷ 0 ∷ 0 ∷ 1 ∷ 1 ∷ 0 ∷ 0 ∷ 1 ∷ 0 ∷ []
unfolding left_in left_after
cut_short = refl

other_version : left_in (1 ∷ 0 ∷ 0 ∷ 0 ∷ 2 ∷ 64 ∷ 0 ∷ 0 ∷ 0 ∷ 0 ∷ []) ≡ 1 ∷ 0 ∷ 0 ∷ 0 ∷ 2 ∷ 64 ∷ 0 ∷ 0 ∷ 0 ∷ 0 ∷ []
unfolding left_in left_after
other_version = refl

one_handle_twice : have_own_handles (bare 7 ∷ locator_bytes ∷ bare 7 ∷ []) ≡ false
one_handle_twice = refl

own_handles : have_own_handles (bare 7 ∷ locator_bytes ∷ bare 8 ∷ []) ≡ true
own_handles = refl
