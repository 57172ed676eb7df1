-- Where a fetch is done, the parts joined are the record that was asked for.
use Rattle.std.proofs.Common.{◌≡◌, ◌⊎◌, inl, inr, ℕ, ◌+◌, ◌≤◌, Bool, true, false, not, ◌||◌, ◌&&◌, ◌==◌, nat_lt, if◌then◌else◌, List, [], ◌∷◌, ◌++◌, length, Option, None, Some, is_some, Result, Ok, Err, IfSome, refl, sym, subst, ap, ◌∙◌, append-nil, eqb-true, ltb-false}
use Rattle.std.proofs.lemmas.List.{length-append}
use Rattle.pldm_wire.specs.Crc.{crc}
use Rattle.pldm_wire.specs.RecordParts.{Part}
use Rattle.pldm_wire.specs.TransferFlags.{is_end}
use Rattle.pldm_wire.specs.declared.answer.Answer.{Answer}
use Rattle.pldm_wire.specs.declared.answer.Answer.TheVariants.{Refused, GetPdr}
use Rattle.pldm_records.specs.Fetches.{Fetching, taken_while_going, taken_at, part_taken, part_after, going_after, has_room_for, is_going, is_last, is_other_crc, record_fault, fetched_record, unless_fault}
use Rattle.pldm_records.specs.FetchLaws.{fetched, bytes_of, bytes_of_answers, IsWhole, IsAsked, EndsRecord, DoneIsTheRecord}
use Rattle.pldm_records.specs.Records.{handle_of, data_length_of}
use Rattle.pldm_records.specs.declared.fetch.FetchState.{FetchState}
use Rattle.pldm_records.specs.declared.fetch.FetchState.TheVariants.{More, Done}
use Rattle.pldm_records.specs.declared.fetch.Stage.{Stage}
use Rattle.pldm_records.specs.declared.fetch.Stage.TheVariants.{Going, Finished, Failed}
use Rattle.pldm_records.specs.declared.fetch.FetchFault.{FetchFault}
use Rattle.pldm_records.specs.declared.fetch.FetchFault.TheVariants as faults
use Rattle.pldm_records.specs.declared.limits.TheConstants.{FIRST_RECORD, MAX_RECORD_BYTES, RECORD_HEADER}

-- while it goes on, a fetch holds the parts that came
pub record Holds (asked : ℕ) (bytes : List ℕ) (f : Fetching) : Type 0 where
  pub asked_is : f.asked ≡ asked
  pub bytes_are : is_going f.stage ≡ true → f.bytes ≡ bytes

part_holds : (asked : ℕ) (bytes : List ℕ) (f : Fetching) (next_data_transfer_handle : ℕ) (part : Part) (given : Result FetchState FetchFault) → Holds asked bytes f → is_going f.stage ≡ true → Holds asked (bytes ++ part.bytes) (part_after f next_data_transfer_handle part given)
part_holds asked bytes f next_data_transfer_handle part (Ok More) held goes =
    record { asked_is = held.asked_is; bytes_are = λ _. ap (λ b. b ++ part.bytes) (held.bytes_are goes) }
part_holds asked bytes f next_data_transfer_handle part (Ok (Done n)) held goes = record { asked_is = held.asked_is; bytes_are = λ wrong. cc }
part_holds asked bytes f next_data_transfer_handle part (Err fault) held goes = record { asked_is = held.asked_is; bytes_are = λ wrong. cc }

going_holds : (asked : ℕ) (bytes : List ℕ) (f : Fetching) (answer : Answer) → Holds asked bytes f → is_going f.stage ≡ true → Holds asked (bytes ++ bytes_of answer) (going_after f answer)
going_holds asked bytes f (Refused code) held goes = record { asked_is = held.asked_is; bytes_are = λ wrong. cc }
going_holds asked bytes f (GetPdr n t part) held goes = part_holds asked bytes f t part (part_taken f n part) held goes
going_holds asked bytes f _ held goes = record { asked_is = held.asked_is; bytes_are = λ e. held.bytes_are e ∙ sym (append-nil bytes) }

after_holds : (asked : ℕ) (bytes : List ℕ) (f : Fetching) (answer : Answer) (goes : Bool) → is_going f.stage ≡ goes → Holds asked bytes f → Holds asked (bytes ++ bytes_of answer) (if goes then going_after f answer else f)
after_holds asked bytes f answer true e held = going_holds asked bytes f answer held e
after_holds asked bytes f answer false e held = record { asked_is = held.asked_is; bytes_are = λ wrong. cc }

pub fetched_holds : (asked : ℕ) (answers : List Answer) → Holds asked (bytes_of_answers answers) (fetched asked answers)
fetched_holds asked [] = record { asked_is = refl; bytes_are = λ _. refl }
fetched_holds asked (answer ∷ before) =
    after_holds asked (bytes_of_answers before) (fetched asked before) answer (is_going (fetched asked before).stage) refl (fetched_holds asked before)

-- no fault: each test of the record was passed
record Passed (short counted first same other : Bool) : Type 0 where
  long : short ≡ false
  counts : counted ≡ true
  handle : (first ≡ true) ⊎ (same ≡ true)
  transfer_crc : other ≡ false

passed : (short counted first same other : Bool) → (if short || not counted then Some faults.Count else if not first && not same then Some faults.Handle else if other then Some faults.Crc else None) ≡ None → Passed short counted first same other
passed true counted first same other e = cc
passed false false first same other e = cc
passed false true false false other e = cc
passed false true true same true e = cc
passed false true false true true e = cc
passed false true true same false e = record { long = refl; counts = refl; handle = inl refl; transfer_crc = refl }
passed false true false true false e = record { long = refl; counts = refl; handle = inr refl; transfer_crc = refl }

right_checksum : (checksum : Option ℕ) (pdr : List ℕ) → is_other_crc checksum pdr ≡ false → IfSome checksum (λ c. c ≡ crc pdr)
right_checksum None pdr e = tt
right_checksum (Some c) pdr e = by_test (c == crc pdr) refl e where
  by_test : (same : Bool) → (c == crc pdr) ≡ same → not same ≡ false → c ≡ crc pdr
  by_test true e f = eqb-true _ _ e
  by_test false e f = cc

-- a checksum came exactly where the flag says so
by_flag : (checksum : Option ℕ) (is_end : Bool) (pdr : List ℕ) → is_some checksum ≡ is_end → IfSome checksum (λ c. c ≡ crc pdr)
    → checksum ≡ (if is_end then Some (crc pdr) else None)
by_flag None true pdr e right = cc
by_flag None false pdr e right = refl
by_flag (Some c) true pdr e right = ap Some right
by_flag (Some c) false pdr e right = cc

asked_for : (asked : ℕ) (pdr : List ℕ) → ((asked == FIRST_RECORD) ≡ true) ⊎ ((handle_of pdr == asked) ≡ true) → IsAsked asked pdr
asked_for asked pdr (inl e) = inl (eqb-true _ _ e)
asked_for asked pdr (inr e) = inr (eqb-true _ _ e)

-- a part that is the last one and passes
record Ended (f : Fetching) (n next : ℕ) (part : Part) : Type 0 where
  fit : has_room_for f.bytes part ≡ true
  last : is_last part.flag ≡ true
  no_fault : record_fault f.asked (f.bytes ++ part.bytes) part.transfer_crc ≡ None
  follows : n ≡ next

ended_by : (f : Fetching) (n next : ℕ) (part : Part) (fit last : Bool) (fault : Option FetchFault) → has_room_for f.bytes part ≡ fit → is_last part.flag ≡ last → record_fault f.asked (f.bytes ++ part.bytes) part.transfer_crc ≡ fault → (if fit then (if last then unless_fault fault (Done n) else Ok More) else Err faults.Count) ≡ Ok (Done next) → Ended f n next part
ended_by f n next part true true None fits_it is_it none e = record { fit = fits_it; last = is_it; no_fault = none; follows = cc }
ended_by f n next part true true (Some fault) fits_it is_it none e = cc
ended_by f n next part true false fault fits_it is_it none e = cc
ended_by f n next part false last fault fits_it is_it none e = cc

ended : (f : Fetching) (n next : ℕ) (part : Part) → part_taken f n part ≡ Ok (Done next) → Ended f n next part
ended f n next part e = ended_by f n next part _ _ _ refl refl refl e

-- the record's length is below the limit where the part fits
small_by : (a b : ℕ) (some long : Bool) → nat_lt MAX_RECORD_BYTES (a + b) ≡ long → (some && not long) ≡ true → a + b ≤ MAX_RECORD_BYTES
small_by a b true false e fit = ltb-false _ _ e
small_by a b true true e fit = cc
small_by a b false long e fit = cc

-- what holds where a fetch is done
abbrev IsDone : ℕ → ℕ → List ℕ → Answer → Type 0
IsDone asked next pdr answer = IsWhole pdr × IsAsked asked pdr × EndsRecord next pdr answer

whole_by : (asked : ℕ) (pdr : List ℕ) (checksum : Option ℕ) → length pdr ≤ MAX_RECORD_BYTES → record_fault asked pdr checksum ≡ None → IsWhole pdr × IsAsked asked pdr × IfSome checksum (λ c. c ≡ crc pdr)
whole_by asked pdr checksum small e =
    let p = passed (nat_lt (length pdr) RECORD_HEADER) (length pdr == RECORD_HEADER + data_length_of pdr) (asked == FIRST_RECORD) (handle_of pdr == asked) (is_other_crc checksum pdr) e in
    (record { header = ltb-false _ _ p.long; small = small; counted = eqb-true _ _ p.counts }, asked_for asked pdr p.handle, right_checksum checksum pdr p.transfer_crc)

part_done : (asked next : ℕ) (bytes : List ℕ) (f : Fetching) (n t : ℕ) (part : Part) → f.asked ≡ asked → f.bytes ≡ bytes → part_taken f n part ≡ Ok (Done next) → IsDone asked next (bytes ++ part.bytes) (GetPdr n t part)
part_done asked next bytes f n t part asked_is bytes_are e =
    let done = ended f n next part e in
    let none : record_fault asked (bytes ++ part.bytes) part.transfer_crc ≡ None = cc (done.no_fault, asked_is, bytes_are) in
    let fit : (nat_lt 0 (length part.bytes) && not (nat_lt MAX_RECORD_BYTES (length bytes + length part.bytes))) ≡ true = subst (λ b. (nat_lt 0 (length part.bytes) && not (nat_lt MAX_RECORD_BYTES (length b + length part.bytes))) ≡ true) bytes_are done.fit in
    let small : length bytes + length part.bytes ≤ MAX_RECORD_BYTES = small_by _ _ _ _ refl fit in
    let parts = whole_by asked (bytes ++ part.bytes) part.transfer_crc (rw (length-append bytes part.bytes) small) none in
    (parts.0, parts.1, (done.follows, done.last, parts.2, λ is_part. by_flag part.transfer_crc (is_end part.flag) (bytes ++ part.bytes) is_part.1 parts.2))

going_done : (asked next : ℕ) (bytes : List ℕ) (f : Fetching) (answer : Answer) → f.asked ≡ asked → f.bytes ≡ bytes → taken_while_going f answer ≡ Ok (Done next) → IsDone asked next (bytes ++ bytes_of answer) answer
going_done asked next bytes f (GetPdr n t part) asked_is bytes_are e = part_done asked next bytes f n t part asked_is bytes_are e
going_done asked next bytes f (Refused code) asked_is bytes_are e = cc
going_done asked next bytes f _ asked_is bytes_are e = cc

part_recorded : (f : Fetching) (next t : ℕ) (part : Part) (given : Result FetchState FetchFault) → given ≡ Ok (Done next) → fetched_record (part_after f t part given) ≡ Some (f.bytes ++ part.bytes)
part_recorded f next t part (Ok (Done n)) e = refl
part_recorded f next t part (Ok More) e = cc
part_recorded f next t part (Err fault) e = cc

pub going_recorded : (f : Fetching) (next : ℕ) (answer : Answer) → taken_while_going f answer ≡ Ok (Done next) → fetched_record (going_after f answer) ≡ Some (f.bytes ++ bytes_of answer)
going_recorded f next (GetPdr n t part) e = part_recorded f next t part (part_taken f n part) e
going_recorded f next (Refused code) e = cc
going_recorded f next _ e = cc

done_at : (asked next : ℕ) (bytes : List ℕ) (f : Fetching) (answer : Answer) (stage : Stage) → f.stage ≡ stage → Holds asked bytes f → taken_at stage f answer ≡ Ok (Done next) → IsDone asked next (bytes ++ bytes_of answer) answer × (fetched_record (if is_going stage then going_after f answer else f) ≡ Some (bytes ++ bytes_of answer))
done_at asked next bytes f answer Going at held e =
    let bytes_are = held.bytes_are (ap is_going at) in
    (going_done asked next bytes f answer held.asked_is bytes_are e, going_recorded f next answer e ∙ ap (λ b. Some (b ++ bytes_of answer)) bytes_are)
done_at asked next bytes f answer Finished at held e = cc
done_at asked next bytes f answer (Failed fault) at held e = cc

pub done_is_the_record : DoneIsTheRecord
done_is_the_record asked next before answer e =
    let done = done_at asked next (bytes_of_answers before) (fetched asked before) answer (fetched asked before).stage refl (fetched_holds asked before) e in
    (done.0.0, done.0.1, done.0.2, done.1)
