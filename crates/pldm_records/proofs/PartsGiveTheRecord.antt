-- Where a fetch is given the parts of the record in turn, it is done at the last.
use Rattle.std.proofs.Common.{◌≡◌, ◌⊎◌, inl, inr, ℕ, ◌+◌, ◌<◌, ◌≤◌, Bool, true, false, not, ◌||◌, ◌&&◌, ◌==◌, nat_lt, nat_le, min, if◌then◌else◌, List, [], ◌∷◌, ◌++◌, length, take, drop, slice_index, Option, None, Some, Ok, refl, sym, subst, ap, ◌∙◌, arith}
use Rattle.std.proofs.lemmas.List.{take_min, take_all, get_or-take, length-take, length-drop}
use Rattle.std.proofs.Math.Seq.{take-add}
use Rattle.std.proofs.lemmas.Bool.{eq-eqb, leb-true, ltb-false}
use Rattle.std.proofs.lemmas.Bool.Decides.{nat_tests}
use Rattle.pldm_wire.specs.Crc.{crc}
use Rattle.pldm_wire.specs.TransferFlags.{is_end}
use Rattle.pldm_wire.specs.declared.command.Command.TheVariants as commands
use Rattle.pldm_wire.specs.declared.answer.Answer.{Answer}
use Rattle.pldm_wire.specs.declared.limits.TheConstants.{MAX_PART_BYTES, GET_FIRST_PART, GET_NEXT_PART}
use Rattle.pldm_records.specs.Fetches.{Fetching, taken, part_taken, part_after, after_taking, has_room_for, is_last, is_other_crc, record_fault, fetched_record, next_request, unless_fault}
use Rattle.pldm_records.proofs.DoneIsTheRecord.{going_recorded}
use Rattle.pldm_records.specs.FetchLaws.{fetched, IsWhole, IsAsked, part_answer, request_at, ArePartsUpto, PartsGiveTheRecord}
use Rattle.pldm_records.specs.Records.{part_bytes, offset_after, is_last_part, flag_of_part, part_flag, part_of, checksum_with, next_data_transfer_handle, handle_of, change_number_of, data_length_of}
use Rattle.pldm_records.specs.declared.fetch.FetchState.TheVariants.{More, Done}
use Rattle.pldm_records.specs.declared.fetch.Stage.TheVariants.{Going}
use Rattle.pldm_records.specs.declared.fetch.FetchFault.TheVariants as faults
use Rattle.pldm_records.specs.declared.limits.TheConstants.{CHANGE_NUMBER_END, FIRST_RECORD, MAX_RECORD_BYTES, RECORD_HEADER}

-- the bytes up to the part, and the part
upto : (pdr : List ℕ) (start count : ℕ) → take start pdr ++ part_bytes pdr start count ≡ take (offset_after pdr start count) pdr
upto pdr start count =
    let n = min count MAX_PART_BYTES in
    let again : take (length (take n (drop start pdr))) (drop start pdr) ≡ take n (drop start pdr) =
    ap (λ k. take k (drop start pdr)) (length-take n (drop start pdr)) ∙ take_min n (drop start pdr) in
    ap (λ b. take start pdr ++ b) (sym again) ∙ sym (take-add start (length (part_bytes pdr start count)) pdr)

pub some_bytes : (pdr : List ℕ) (start count : ℕ) → start < length pdr → 0 < count → 0 < length (part_bytes pdr start count)
some_bytes pdr start count within some = rw (length-take (min count MAX_PART_BYTES) (drop start pdr), length-drop start pdr) (omega arith)

within_record : (pdr : List ℕ) (start count : ℕ) → start < length pdr → offset_after pdr start count ≤ length pdr
within_record pdr start count within = rw (length-take (min count MAX_PART_BYTES) (drop start pdr), length-drop start pdr) (omega arith)

-- what a fetch holds that was given the parts up to an offset
abbrev held_upto : ℕ → List ℕ → ℕ → Fetching
held_upto asked pdr offset = record { asked = asked; bytes = take offset pdr; offset = offset; stage = Going }

it_fits : (pdr : List ℕ) (start count : ℕ) → IsWhole pdr → start < length pdr → 0 < count → has_room_for (take start pdr) (part_of pdr start count) ≡ true
it_fits pdr start count whole within some =
    let here : 0 < length (part_bytes pdr start count) = some_bytes pdr start count within some in
    let small : length (take start pdr) + length (part_bytes pdr start count) ≤ MAX_RECORD_BYTES =
    omega (arith, within_record pdr start count within, whole.small, length-take start pdr) in
    grind (arith, nat_tests, here, small)

flag_goes_on : (first : Bool) → is_last (flag_of_part first false) ≡ false
flag_goes_on true = refl
flag_goes_on false = refl

flag_ends : (first : Bool) → is_last (flag_of_part first true) ≡ true
flag_ends true = refl
flag_ends false = refl

choose_middle : {A : Type 0} (a b : Bool) (x y z : A) → a ≡ true → b ≡ false → (if a then (if b then x else y) else z) ≡ y
choose_middle true false x y z e f = refl
choose_middle true true x y z e f = cc
choose_middle false b x y z e f = cc

choose_first : {A : Type 0} (a b : Bool) (x y z : A) → a ≡ true → b ≡ true → (if a then (if b then x else y) else z) ≡ x
choose_first true true x y z e f = refl
choose_first true false x y z e f = cc
choose_first false b x y z e f = cc

choose_else : {A : Type 0} (a : Bool) (x y : A) → a ≡ false → (if a then x else y) ≡ y
choose_else false x y e = refl
choose_else true x y e = cc

-- with a part that more follow, a fetch goes on
taken_more : (asked next start count : ℕ) (pdr : List ℕ) → IsWhole pdr → start < length pdr → 0 < count → is_last_part pdr start count ≡ false → part_taken (held_upto asked pdr start) next (part_of pdr start count) ≡ Ok More
taken_more asked next start count pdr whole within some more =
    let goes : is_last (part_flag pdr start count) ≡ false = ap (λ last. is_last (flag_of_part (start == 0) last)) more ∙ flag_goes_on (start == 0) in
    choose_middle (has_room_for (take start pdr) (part_of pdr start count)) (is_last (part_flag pdr start count)) _ _ _ (it_fits pdr start count whole within some) goes

after_more : (asked next start count : ℕ) (pdr : List ℕ) → IsWhole pdr → start < length pdr → 0 < count → is_last_part pdr start count ≡ false → after_taking (held_upto asked pdr start) (part_answer next pdr start count) ≡ held_upto asked pdr (offset_after pdr start count)
after_more asked next start count pdr whole within some more =
    ap (part_after (held_upto asked pdr start) (next_data_transfer_handle pdr start count) (part_of pdr start count)) (taken_more asked next start count pdr whole within some more)
    ∙ ap (λ (b : List ℕ). with_bytes b (next_data_transfer_handle pdr start count)) (upto pdr start count)
    ∙ ap (with_bytes (take (offset_after pdr start count) pdr)) (choose_else (is_last_part pdr start count) 0 (offset_after pdr start count) more) where
      with_bytes : List ℕ → ℕ → Fetching
      with_bytes b o = record { asked = asked; bytes = b; offset = o; stage = Going }

-- given the parts up to an offset within the record, a fetch holds the bytes up to there
fetched_upto : (asked next : ℕ) (pdr : List ℕ) → IsWhole pdr → (offset : ℕ) (answers : List Answer) → ArePartsUpto next pdr offset answers → offset < length pdr → fetched asked answers ≡ held_upto asked pdr offset
fetched_upto asked next pdr whole offset [] none below = ap (held_upto asked pdr) (sym none)
fetched_upto asked next pdr whole offset (answer ∷ before) (start, within, (count, some, is, ends), parts) below =
    let more : is_last_part pdr start count ≡ false = not_last (offset_after pdr start count) (length pdr) (subst (λ o. o < length pdr) (sym ends) below) in
    ap (λ f. after_taking f answer) (fetched_upto asked next pdr whole start before parts within)
    ∙ ap (after_taking (held_upto asked pdr start)) is
    ∙ after_more asked next start count pdr whole within some more
    ∙ ap (held_upto asked pdr) ends where
      not_last : (o n : ℕ) → o < n → nat_le n o ≡ false
      not_last o n h = grind (arith, nat_tests, h)

-- no fault of a whole record that was asked for
none_of : (short counted first same other : Bool) → short ≡ false → counted ≡ true → (first ≡ true) ⊎ (same ≡ true) → other ≡ false → (if short || not counted then Some faults.Count else if not first && not same then Some faults.Handle else if other then Some faults.Crc else None) ≡ None
none_of false true true same false a b c e = refl
none_of false true false true false a b c e = refl
none_of false true false false false a b (inl c) e = cc
none_of false true false false false a b (inr c) e = cc
none_of true counted first same other a b c e = cc
none_of false false first same other a b c e = cc
none_of false true first same true a b c e = cc

asked_test : (asked : ℕ) (pdr : List ℕ) → IsAsked asked pdr → ((asked == FIRST_RECORD) ≡ true) ⊎ ((handle_of pdr == asked) ≡ true)
asked_test asked pdr (inl e) = inl (eq-eqb _ _ e)
asked_test asked pdr (inr e) = inr (eq-eqb _ _ e)

whole_record : (asked : ℕ) (pdr : List ℕ) (checksum : Option ℕ) → IsWhole pdr → IsAsked asked pdr → is_other_crc checksum pdr ≡ false → record_fault asked pdr checksum ≡ None
whole_record asked pdr checksum whole is right =
    none_of (nat_lt (length pdr) RECORD_HEADER) (length pdr == RECORD_HEADER + data_length_of pdr) (asked == FIRST_RECORD) (handle_of pdr == asked) (is_other_crc checksum pdr)
    (long_enough (length pdr) RECORD_HEADER whole.header) (eq-eqb _ _ whole.counted) (asked_test asked pdr is) right where
      long_enough : (n least : ℕ) → least ≤ n → nat_lt n least ≡ false
      long_enough n least h = grind (arith, nat_tests, h)

own_checksum : (ends : Bool) (pdr : List ℕ) → is_other_crc (if ends then Some (crc pdr) else None) pdr ≡ false
own_checksum true pdr = ap not (eq-eqb _ _ refl)
own_checksum false pdr = refl

-- the bytes before the last part and that part are the record
all_of : (pdr : List ℕ) (offset count : ℕ) → is_last_part pdr offset count ≡ true → take offset pdr ++ part_bytes pdr offset count ≡ pdr
all_of pdr offset count last = upto pdr offset count ∙ take_all (offset_after pdr offset count) pdr (leb-true _ _ last)

taken_done : (asked next offset count : ℕ) (pdr : List ℕ) → IsWhole pdr → IsAsked asked pdr → offset < length pdr → 0 < count → is_last_part pdr offset count ≡ true → part_taken (held_upto asked pdr offset) next (part_of pdr offset count) ≡ Ok (Done next)
taken_done asked next offset count pdr whole is within some last =
    let flag : is_last (part_flag pdr offset count) ≡ true = ap (λ l. is_last (flag_of_part (offset == 0) l)) last ∙ flag_ends (offset == 0) in
    let sum = checksum_with (part_flag pdr offset count) pdr in
    let none : record_fault asked (take offset pdr ++ part_bytes pdr offset count) sum ≡ None =
    ap (λ b. record_fault asked b sum) (all_of pdr offset count last) ∙ whole_record asked pdr sum whole is (own_checksum (is_end (part_flag pdr offset count)) pdr) in
    choose_first (has_room_for (take offset pdr) (part_of pdr offset count)) (is_last (part_flag pdr offset count)) _ _ _ (it_fits pdr offset count whole within some) flag
    ∙ ap (λ fault. unless_fault fault (Done next)) none

taken_by : (asked next offset count : ℕ) (pdr : List ℕ) (last : Bool) → IsWhole pdr → IsAsked asked pdr → offset < length pdr → 0 < count → is_last_part pdr offset count ≡ last → part_taken (held_upto asked pdr offset) next (part_of pdr offset count) ≡ (if last then Ok (Done next) else Ok More)
taken_by asked next offset count pdr true whole is within some last = taken_done asked next offset count pdr whole is within some last
taken_by asked next offset count pdr false whole is within some last = taken_more asked next offset count pdr whole within some last

-- what stands before an offset of the record stands there in the record
before_offset : (pdr : List ℕ) (offset i : ℕ) → i < offset → slice_index (take offset pdr) i ≡ slice_index pdr i
before_offset pdr offset i h = get_or-take offset pdr i 0 h

change_number_here : (pdr : List ℕ) (offset : ℕ) (none : Bool) → nat_lt offset CHANGE_NUMBER_END ≡ none
    → (if none then 0 else change_number_of (take offset pdr)) ≡ (if none then 0 else change_number_of pdr)
change_number_here pdr offset true t = refl
change_number_here pdr offset false t =
    let far : CHANGE_NUMBER_END ≤ offset = ltb-false _ _ t in
    rw (before_offset pdr offset 6 (omega arith), before_offset pdr offset 7 (omega arith)) refl

-- the request that a fetch makes that was given the parts up to an offset
asks_here : (asked offset : ℕ) (pdr : List ℕ) → offset < length pdr → next_request (held_upto asked pdr offset) ≡ Some (request_at asked pdr offset)
asks_here asked offset pdr below =
    let long : length (take offset pdr) ≡ offset = rw (length-take offset pdr) (omega arith) in
    rw long (ap (λ n. Some (commands.GetPdr asked offset (if offset == 0 then GET_FIRST_PART else GET_NEXT_PART) MAX_PART_BYTES n))
    (change_number_here pdr offset (nat_lt offset CHANGE_NUMBER_END) refl))

pub parts_give_the_record : PartsGiveTheRecord
parts_give_the_record asked next offset count pdr before whole is parts below some =
    let same = fetched_upto asked next pdr whole offset before parts below in
    let answer = part_answer next pdr offset count in (
      ap (λ (f : Fetching). next_request f) same ∙ asks_here asked offset pdr below,
      ap (λ (f : Fetching). taken f answer) same ∙ taken_by asked next offset count pdr (is_last_part pdr offset count) whole is below some refl,
      λ last. ap (λ (f : Fetching). fetched_record (after_taking f answer)) same
          ∙ going_recorded (held_upto asked pdr offset) next answer (taken_done asked next offset count pdr whole is below some last)
          ∙ ap Some (all_of pdr offset count last),
    )

-- the premises can be met: a record of a header alone, of which no part has come yet
abbrev only_header : List ℕ
only_header = 1 ∷ 0 ∷ 0 ∷ 0 ∷ 1 ∷ 1 ∷ 0 ∷ 0 ∷ 0 ∷ 0 ∷ []

only_header_is_whole : IsWhole only_header
only_header_is_whole = record { header = omega arith; small = omega arith; counted = refl }

none_has_come : ArePartsUpto 0 only_header 0 []
none_has_come = refl
