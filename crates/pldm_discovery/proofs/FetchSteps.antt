-- What an answer leaves of a fetch that goes on: more bytes, or a whole record.
use Rattle.std.proofs.Common.{◌≡◌, ◌⊎◌, inl, inr, ℕ, ◌+◌, ◌<◌, ◌≤◌, ◌==◌, Bool, true, false, not, ◌||◌, ◌&&◌, nat_lt, if◌then◌else◌, List, ◌++◌, length, Option, Some, None, Result, Ok, Err, refl, arith, eqb-true, ltb-true, ltb-false}
use Rattle.std.proofs.lemmas.List.{length-append}
use Rattle.pldm_wire.specs.RecordParts.{Part}
use Rattle.pldm_wire.specs.declared.answer.Answer.{Answer}
use Rattle.pldm_wire.specs.declared.answer.Answer.TheVariants.{Refused, GetPdr}
use Rattle.pldm_records.specs.Fetches.{Fetching, taken, taken_at, taken_while_going, part_after, going_after, after_taking, has_room_for, is_going, is_last, record_fault, unless_fault}
use Rattle.pldm_records.specs.FetchLaws.{IsAsked}
use Rattle.pldm_records.specs.Records.{handle_of}
use Rattle.pldm_records.specs.declared.fetch.FetchState.{FetchState}
use Rattle.pldm_records.specs.declared.fetch.FetchState.TheVariants.{More, Done}
use Rattle.pldm_records.specs.declared.fetch.Stage.{Stage}
use Rattle.pldm_records.specs.declared.fetch.Stage.TheVariants.{Going, Finished, Failed}
use Rattle.pldm_records.specs.declared.fetch.FetchFault.{FetchFault}
use Rattle.pldm_records.specs.declared.fetch.FetchFault.TheVariants as faults
use Rattle.pldm_records.specs.declared.limits.TheConstants.{FIRST_RECORD, MAX_RECORD_BYTES, RECORD_HEADER}
use Rattle.pldm_discovery.specs.WholeRecords.{IsFetched}

-- by what was given: it goes on with more bytes, or is done with a record; and it has not too many
abbrev pub IsStep : Fetching → Result FetchState FetchFault → Fetching → Type 0
IsStep f (Ok More) left = (left.stage ≡ Going) × (length f.bytes < length left.bytes) × (length left.bytes ≤ MAX_RECORD_BYTES) × (left.asked ≡ f.asked)
IsStep f (Ok (Done next)) left = IsFetched left × (length left.bytes ≤ MAX_RECORD_BYTES) × IsAsked f.asked left.bytes
IsStep f (Err fault) left = length f.bytes ≤ MAX_RECORD_BYTES → length left.bytes ≤ MAX_RECORD_BYTES

-- a part that fits has some bytes, and not too many
room_by : (a b : ℕ) (some long : Bool) → nat_lt 0 b ≡ some → nat_lt MAX_RECORD_BYTES (a + b) ≡ long → (some && not long) ≡ true → (0 < b) × (a + b ≤ MAX_RECORD_BYTES)
room_by a b true false s l fit = (ltb-true _ _ s, ltb-false _ _ l)
room_by a b true true s l fit = cc
room_by a b false long s l fit = cc

room : (bytes : List ℕ) (part : Part) → has_room_for bytes part ≡ true → (0 < length part.bytes) × (length bytes + length part.bytes ≤ MAX_RECORD_BYTES)
room bytes part fit = room_by (length bytes) (length part.bytes) _ _ refl refl fit

-- a record without a fault has a header
header_by : (size : ℕ) (short other : Bool) (rest : Option FetchFault) → nat_lt size RECORD_HEADER ≡ short → (if short || other then Some faults.Count else rest) ≡ None → RECORD_HEADER ≤ size
header_by size false other rest s e = ltb-false _ _ s
header_by size true other rest s e = cc

header : (asked : ℕ) (pdr : List ℕ) (checksum : Option ℕ) → record_fault asked pdr checksum ≡ None → RECORD_HEADER ≤ length pdr
header asked pdr checksum e = header_by (length pdr) _ _ _ refl e

-- and the handle that was asked for
asked_by : (short first same : Bool) (rest : Option FetchFault) → (if short then Some faults.Count else if not first && not same then Some faults.Handle else rest) ≡ None
    → (first ≡ true) ⊎ (same ≡ true)
asked_by false true same rest e = inl refl
asked_by false false true rest e = inr refl
asked_by false false false rest e = cc
asked_by true first same rest e = cc

handle_by : (asked : ℕ) (pdr : List ℕ) → ((asked == FIRST_RECORD) ≡ true) ⊎ ((handle_of pdr == asked) ≡ true) → IsAsked asked pdr
handle_by asked pdr (inl e) = inl (eqb-true _ _ e)
handle_by asked pdr (inr e) = inr (eqb-true _ _ e)

is_asked : (asked : ℕ) (pdr : List ℕ) (checksum : Option ℕ) → record_fault asked pdr checksum ≡ None → IsAsked asked pdr
is_asked asked pdr checksum e = handle_by asked pdr (asked_by _ (asked == FIRST_RECORD) (handle_of pdr == asked) _ e)

abbrev given_by : Bool → Bool → Option FetchFault → ℕ → Result FetchState FetchFault
given_by fit last fault n = if fit then (if last then unless_fault fault (Done n) else Ok More) else Err faults.Count

part_steps : (f : Fetching) (n t : ℕ) (part : Part) (fit last : Bool) (fault : Option FetchFault) → has_room_for f.bytes part ≡ fit
    → record_fault f.asked (f.bytes ++ part.bytes) part.transfer_crc ≡ fault
    → IsStep f (given_by fit last fault n) (part_after f t part (given_by fit last fault n))
part_steps f n t part true false fault fits e =
    let r = room f.bytes part fits in
    (refl, rw (length-append f.bytes part.bytes) (omega (arith, r.0)), rw (length-append f.bytes part.bytes) r.1, refl)
part_steps f n t part true true None fits e =
    let r = room f.bytes part fits in
    ((refl, header f.asked (f.bytes ++ part.bytes) part.transfer_crc e), rw (length-append f.bytes part.bytes) r.1, is_asked f.asked (f.bytes ++ part.bytes) part.transfer_crc e)
part_steps f n t part true true (Some fault) fits e = λ few. omega arith
part_steps f n t part false last fault fits e = λ few. omega arith

going_steps : (f : Fetching) (answer : Answer) → IsStep f (taken_while_going f answer) (going_after f answer)
going_steps f (GetPdr n t part) = part_steps f n t part (has_room_for f.bytes part) (is_last part.flag) _ refl refl
going_steps f (Refused code) = λ few. omega arith
going_steps f _ = λ few. few

steps_at : (f : Fetching) (answer : Answer) (stage : Stage) → IsStep f (taken_at stage f answer) (if is_going stage then going_after f answer else f)
steps_at f answer Going = going_steps f answer
steps_at f answer Finished = λ few. few
steps_at f answer (Failed fault) = λ few. few

pub fetch_steps : (f : Fetching) (answer : Answer) → IsStep f (taken f answer) (after_taking f answer)
fetch_steps f answer = steps_at f answer f.stage

done_by : (f left : Fetching) (given : Result FetchState FetchFault) (next : ℕ) → given ≡ Ok (Done next) → IsStep f given left → IsFetched left
done_by f left (Ok (Done n)) next e step = step.0
done_by f left (Ok More) next e step = cc
done_by f left (Err fault) next e step = cc

-- a fetch that is done has a record
pub done_is_fetched : (f : Fetching) (answer : Answer) (next : ℕ) → taken f answer ≡ Ok (Done next) → IsFetched (after_taking f answer)
done_is_fetched f answer next e = done_by f (after_taking f answer) (taken f answer) next e (fetch_steps f answer)
