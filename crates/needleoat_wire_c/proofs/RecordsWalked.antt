-- An array walked from record to record.
use Rattle.std.proofs.Common.{◌≡◌, ℕ, zero, suc, ◌+◌, ◌-◌, ◌<◌, ◌≤◌, ◌==◌, Bool, true, false, leb, ltb, not, slice_index, List, [], ◌∷◌, ◌++◌, length, take, drop, Option, Some, None, refl, sym, ap, ◌∙◌, ⊎_elim, append_assoc, arith}
use Rattle.std.proofs.lemmas.Bool.{and_from, and_left, and_parts, and_right, cases_Bool, cond-false, eq-eqb, le-leb, le-ltb, lt-leb, ne_eqb, not_from_false, not_from_true}
use Rattle.std.proofs.lemmas.Bool.Decides.{nat_tests}
use Rattle.std.proofs.lemmas.Grind.{common_steps}
use Rattle.std.proofs.lemmas.List.{get_or-take, length-take, take-append-drop, take_all}
use Rattle.std.proofs.Math.ListN.{get_or-append}
use Rattle.std.proofs.Math.Seq.{take-append_seam, drop-append_seam}
use Rattle.std.specs.List.{flat_map, list_all, position}
use Rattle.std.specs.Option.{option_map}
use Rattle.pldm_platform.specs.declared.refusals.TheConstants.{INVALID_RECORD_HANDLE}
use Rattle.pldm_records.specs.RecordAnswers.{offset_asked, part_answered, record_answer, record_answer_at}
use Rattle.pldm_records.specs.declared.limits.TheConstants.{FIRST_RECORD}
use Rattle.pldm_wire.specs.declared.answer.Answer.TheVariants.{Refused}
use Rattle.pldm_wire.specs.declared.limits.TheConstants.{GET_FIRST_PART}
use Rattle.pldm_records.specs.Records.{data_length_of, handle_at, handle_of, is_record, position_asked, position_of}
use Rattle.needleoat_wire_c.specs.RecordWalks.{first_answer, first_size, first_bytes, first_record, from_asked, from_handle, records_after, records_in, left_after, left_in}

pub data_length-take : (n : ℕ) (bytes : List ℕ) → 10 ≤ n → data_length_of (take n bytes) ≡ data_length_of bytes
data_length-take n bytes long = rw (get_or-take n bytes 8 0 (omega arith), get_or-take n bytes 9 0 (omega arith)) refl

pub data_length-append : (pdr rest : List ℕ) → 10 ≤ length pdr → data_length_of (pdr ++ rest) ≡ data_length_of pdr
data_length-append pdr rest long = rw (get_or-append pdr rest 0 8 (omega arith), get_or-append pdr rest 0 9 (omega arith)) refl

-- past bytes that are skipped
pub records_skipped : (skip : ℕ) (bytes : List ℕ) → records_after skip bytes ≡ records_in (drop skip bytes)
unfolding records_after records_in
records_skipped zero bytes = refl
records_skipped (suc skip) [] = refl
records_skipped (suc skip) (b ∷ bytes) = records_skipped skip bytes

pub left_skipped : (skip : ℕ) (bytes : List ℕ) → left_after skip bytes ≡ left_in (drop skip bytes)
unfolding left_after left_in
left_skipped zero bytes = refl
left_skipped (suc skip) [] = refl
left_skipped (suc skip) (b ∷ bytes) = left_skipped skip bytes

pub drop_first : (n : ℕ) (b : ℕ) (bytes : List ℕ) → drop (10 + n) (b ∷ bytes) ≡ drop (10 + n - 1) bytes
drop_first n b bytes = let e : 10 + n ≡ suc (9 + n) = omega arith in let s : 10 + n - 1 ≡ 9 + n = omega arith in rw (s, e) refl

-- at a record, and where there is none

records_at : (b : ℕ) (bytes : List ℕ) → is_record (first_bytes (b ∷ bytes)) ≡ true → records_in (b ∷ bytes) ≡ first_bytes (b ∷ bytes) ∷ records_in (drop (first_size (b ∷ bytes)) (b ∷ bytes))
unfolding records_in records_after
records_at b bytes is =
    rw (is, drop_first (data_length_of (b ∷ bytes)) b bytes)
    (ap (λ (more : List (List ℕ)). first_bytes (b ∷ bytes) ∷ more) (records_skipped (first_size (b ∷ bytes) - 1) bytes))

none_at : (b : ℕ) (bytes : List ℕ) → is_record (first_bytes (b ∷ bytes)) ≡ false → records_in (b ∷ bytes) ≡ []
unfolding records_in records_after
none_at b bytes is = rw is refl

same_pair : (p q : List ℕ × List ℕ) → Some p ≡ Some q → (p.0 ≡ q.0) × (p.1 ≡ q.1)
same_pair p q e = (cc, cc)

same_more : (a b c d : List ℕ) → a ≡ c → b ≡ d → a ∷ records_in b ≡ c ∷ records_in d
same_more a b c d first rest = cc

pub records_more : (bytes pdr rest : List ℕ) → first_record bytes ≡ Some (pdr, rest) → records_in bytes ≡ pdr ∷ records_in rest
unfolding first_record
records_more [] pdr rest e = cc
records_more (b ∷ bytes) pdr rest e =
    ⊎_elim
    (λ (is : is_record (first_bytes (b ∷ bytes)) ≡ true). let same = same_pair (first_bytes (b ∷ bytes), drop (first_size (b ∷ bytes)) (b ∷ bytes)) (pdr, rest) (rw is at e) in
    records_at b bytes is ∙ same_more _ _ _ _ same.0 same.1)
    (λ (is : is_record (first_bytes (b ∷ bytes)) ≡ false). let here = rw is at e in cc)
    (cases_Bool (is_record (first_bytes (b ∷ bytes))))

pub records_end : (bytes : List ℕ) → first_record bytes ≡ None → records_in bytes ≡ []
unfolding first_record records_in records_after
records_end [] e = refl
records_end (b ∷ bytes) e =
    ⊎_elim
    (λ (is : is_record (first_bytes (b ∷ bytes)) ≡ true). let here = rw is at e in cc)
    (λ (is : is_record (first_bytes (b ∷ bytes)) ≡ false). none_at b bytes is)
    (cases_Bool (is_record (first_bytes (b ∷ bytes))))

left_at : (b : ℕ) (bytes : List ℕ) → is_record (first_bytes (b ∷ bytes)) ≡ true → left_in (b ∷ bytes) ≡ left_in (drop (first_size (b ∷ bytes)) (b ∷ bytes))
unfolding left_in left_after
left_at b bytes is =
    rw (is, drop_first (data_length_of (b ∷ bytes)) b bytes) (left_skipped (first_size (b ∷ bytes) - 1) bytes)

all_left_at : (b : ℕ) (bytes : List ℕ) → is_record (first_bytes (b ∷ bytes)) ≡ false → left_in (b ∷ bytes) ≡ b ∷ bytes
unfolding left_in left_after
all_left_at b bytes is = rw is refl

pub left_more : (bytes pdr rest : List ℕ) → first_record bytes ≡ Some (pdr, rest) → left_in bytes ≡ left_in rest
unfolding first_record
left_more [] pdr rest e = cc
left_more (b ∷ bytes) pdr rest e =
    ⊎_elim
    (λ (is : is_record (first_bytes (b ∷ bytes)) ≡ true). let same = same_pair (first_bytes (b ∷ bytes), drop (first_size (b ∷ bytes)) (b ∷ bytes)) (pdr, rest) (rw is at e) in
    left_at b bytes is ∙ ap left_in same.1)
    (λ (is : is_record (first_bytes (b ∷ bytes)) ≡ false). let here = rw is at e in cc)
    (cases_Bool (is_record (first_bytes (b ∷ bytes))))

pub left_end : (bytes : List ℕ) → first_record bytes ≡ None → left_in bytes ≡ bytes
unfolding first_record left_in left_after
left_end [] e = refl
left_end (b ∷ bytes) e =
    ⊎_elim
    (λ (is : is_record (first_bytes (b ∷ bytes)) ≡ true). let here = rw is at e in cc)
    (λ (is : is_record (first_bytes (b ∷ bytes)) ≡ false). all_left_at b bytes is)
    (cases_Bool (is_record (first_bytes (b ∷ bytes))))

-- the records in front and what is left after them are the bytes

joined_after : (skip : ℕ) (bytes : List ℕ) → flat_map (λ pdr. pdr) (records_after skip bytes) ++ left_after skip bytes ≡ drop skip bytes
unfolding records_after left_after
joined_after zero [] = refl
joined_after (suc skip) [] = refl
joined_after (suc skip) (b ∷ bytes) = joined_after skip bytes
joined_after zero (b ∷ bytes) =
    ⊎_elim
    (λ (is : is_record (first_bytes (b ∷ bytes)) ≡ true).
    let more = joined_after (first_size (b ∷ bytes) - 1) bytes in
    let whole = take-append-drop (first_size (b ∷ bytes)) (b ∷ bytes) in
    let past = drop_first (data_length_of (b ∷ bytes)) b bytes in
    rw is (append_assoc (first_bytes (b ∷ bytes)) (flat_map (λ pdr. pdr) (records_after (first_size (b ∷ bytes) - 1) bytes)) (left_after (first_size (b ∷ bytes) - 1) bytes) ∙ ap (λ (more : List ℕ). first_bytes (b ∷ bytes) ++ more) (more ∙ sym past) ∙ whole))
    (λ (is : is_record (first_bytes (b ∷ bytes)) ≡ false). rw is refl)
    (cases_Bool (is_record (first_bytes (b ∷ bytes))))

pub joined : (bytes : List ℕ) → flat_map (λ pdr. pdr) (records_in bytes) ++ left_in bytes ≡ bytes
unfolding records_in left_in
joined bytes = joined_after 0 bytes

-- each of them is a record

each_after : (skip : ℕ) (bytes : List ℕ) → list_all is_record (records_after skip bytes) ≡ true
unfolding records_after
each_after skip [] = refl
each_after (suc skip) (b ∷ bytes) = each_after skip bytes
each_after zero (b ∷ bytes) =
    ⊎_elim
    (λ (is : is_record (first_bytes (b ∷ bytes)) ≡ true).
    let more = each_after (first_size (b ∷ bytes) - 1) bytes in rw (is, is) more)
    (λ (is : is_record (first_bytes (b ∷ bytes)) ≡ false). rw is refl)
    (cases_Bool (is_record (first_bytes (b ∷ bytes))))

pub each : (bytes : List ℕ) → list_all is_record (records_in bytes) ≡ true
unfolding records_in
each bytes = each_after 0 bytes

-- records one after another are those in front, and nothing is left

record_size : (pdr : List ℕ) → is_record pdr ≡ true → (10 ≤ length pdr) × (length pdr ≡ first_size pdr)
record_size pdr is = grind (arith, nat_tests)

pub first_of : (pdr rest : List ℕ) → is_record pdr ≡ true → first_record (pdr ++ rest) ≡ Some (pdr, rest)
unfolding first_record
first_of pdr rest is =
    let sizes = record_size pdr is in
    let size : first_size (pdr ++ rest) ≡ length pdr = ap (λ (n : ℕ). 10 + n) (data_length-append pdr rest sizes.0) ∙ sym sizes.1 in
    rw (size, take-append_seam pdr rest, drop-append_seam pdr rest, is) refl

pub walked : (records : List (List ℕ)) → list_all is_record records ≡ true → (records_in (flat_map (λ pdr. pdr) records) ≡ records) × (left_in (flat_map (λ pdr. pdr) records) ≡ [])
unfolding records_in left_in records_after left_after
walked [] all = (refl, refl)
walked (pdr ∷ records) all =
    let parts = and_parts (is_record pdr) (list_all is_record records) all in
    let rest = walked records parts.1 in
    let at = first_of pdr (flat_map (λ pdr. pdr) records) parts.0 in
    (records_more _ _ _ at ∙ ap (λ (more : List (List ℕ)). pdr ∷ more) rest.0, left_more _ _ _ at ∙ rest.1)

-- the record that a command asks for

position_first : (p : List ℕ → Bool) (pdr : List ℕ) (records : List (List ℕ)) → p pdr ≡ true → position p (pdr ∷ records) ≡ Some 0
position_first p pdr records is = grind (arith, common_steps)

position_later : (p : List ℕ → Bool) (pdr : List ℕ) (records : List (List ℕ)) → p pdr ≡ false → position p (pdr ∷ records) ≡ option_map suc (position p records)
position_later p pdr records is = grind (arith, common_steps)

answer_later : (data_transfer_handle transfer_operation_flag request_count : ℕ) (pdr : List ℕ) (records : List (List ℕ)) (place : Option ℕ) → record_answer_at data_transfer_handle transfer_operation_flag request_count (pdr ∷ records) (option_map suc place) ≡ record_answer_at data_transfer_handle transfer_operation_flag request_count records place
answer_later dth tof count pdr records None = refl
answer_later dth tof count pdr records (Some place) =
    let e : suc place + 1 ≡ suc (place + 1) = omega arith in rw e refl

answer_from : (data_transfer_handle transfer_operation_flag request_count handle : ℕ) (records : List (List ℕ)) → record_answer_at data_transfer_handle transfer_operation_flag request_count records (position_of handle records) ≡ first_answer data_transfer_handle transfer_operation_flag request_count (from_handle handle records)
answer_from dth tof count handle [] = refl
answer_from dth tof count handle (pdr ∷ records) =
    ⊎_elim
    (λ (is : (handle_of pdr == handle) ≡ true).
    let place = position_first (λ pdr. handle_of pdr == handle) pdr records is in rw (place, is) refl)
    (λ (is : (handle_of pdr == handle) ≡ false).
    let place = position_later (λ pdr. handle_of pdr == handle) pdr records is in
    rw (place, is) (answer_later dth tof count pdr records (position_of handle records) ∙ answer_from dth tof count handle records))
    (cases_Bool (handle_of pdr == handle))

answer_first : (data_transfer_handle transfer_operation_flag request_count : ℕ) (records : List (List ℕ)) → record_answer_at data_transfer_handle transfer_operation_flag request_count records (Some 0) ≡ first_answer data_transfer_handle transfer_operation_flag request_count records
answer_first dth tof count [] = refl
answer_first dth tof count (pdr ∷ records) = refl

pub answer_asked : (data_transfer_handle transfer_operation_flag request_count handle : ℕ) (records : List (List ℕ)) → record_answer_at data_transfer_handle transfer_operation_flag request_count records (position_asked handle records) ≡ first_answer data_transfer_handle transfer_operation_flag request_count (from_asked handle records)
answer_asked dth tof count zero records = answer_first dth tof count records
answer_asked dth tof count (suc handle) records =
    let no : (suc handle == FIRST_RECORD) ≡ false = ne_eqb (suc handle) FIRST_RECORD (λ (e : suc handle ≡ FIRST_RECORD). omega arith) in
    ap (record_answer_at dth tof count records) (cond-false (suc handle == FIRST_RECORD) (Some 0) (position_of (suc handle) records) no)
    ∙ answer_from dth tof count (suc handle) records
    ∙ ap (first_answer dth tof count) (sym (cond-false (suc handle == FIRST_RECORD) records (from_handle (suc handle) records) no))

-- the answer to GetPDR, by the records from the one on that is asked for

record_answer_by : (record_handle data_transfer_handle transfer_operation_flag request_count : ℕ) (records : List (List ℕ)) → (request_count ≡ 0 → ⊥) → transfer_operation_flag ≤ GET_FIRST_PART → record_answer record_handle data_transfer_handle transfer_operation_flag request_count records ≡ first_answer data_transfer_handle transfer_operation_flag request_count (from_asked record_handle records)
record_answer_by handle dth tof count records asks first =
    let some : (count == 0) ≡ false = ne_eqb count 0 asks in
    let flag : ltb GET_FIRST_PART tof ≡ false = le-ltb GET_FIRST_PART tof first in
    cond-false (count == 0) _ _ some ∙ cond-false (ltb GET_FIRST_PART tof) _ _ flag ∙ answer_asked dth tof count handle records

pub no_record_asked : (record_handle data_transfer_handle transfer_operation_flag request_count : ℕ) (records asked : List (List ℕ)) → (request_count ≡ 0 → ⊥) → transfer_operation_flag ≤ GET_FIRST_PART → asked ≡ from_asked record_handle records → asked ≡ [] → Refused INVALID_RECORD_HANDLE ≡ record_answer record_handle data_transfer_handle transfer_operation_flag request_count records
no_record_asked handle dth tof count records asked asks first is none =
    sym (record_answer_by handle dth tof count records asks first ∙ ap (first_answer dth tof count) (sym is ∙ none))

pub record_asked : (record_handle data_transfer_handle transfer_operation_flag request_count : ℕ) (records asked : List (List ℕ)) (pdr : List ℕ) (rest : List (List ℕ)) (offset : Option ℕ) → (request_count ≡ 0 → ⊥) → transfer_operation_flag ≤ GET_FIRST_PART → asked ≡ from_asked record_handle records → asked ≡ pdr ∷ rest → offset ≡ offset_asked transfer_operation_flag data_transfer_handle pdr → part_answered (handle_at 0 rest) request_count pdr offset ≡ record_answer record_handle data_transfer_handle transfer_operation_flag request_count records
record_asked handle dth tof count records asked pdr rest offset asks first is some at =
    sym (record_answer_by handle dth tof count records asks first ∙ ap (first_answer dth tof count) (sym is ∙ some) ∙ ap (part_answered (handle_at 0 rest) count pdr) (sym at))

-- the record in front, and why there is none

none_first : (bytes : List ℕ) → is_record (first_bytes bytes) ≡ false → None ≡ first_record bytes
unfolding first_record
none_first bytes other = rw other refl

header_short : (xs : List ℕ) → length xs < 10 → is_record xs ≡ false
header_short xs short = let no : leb 10 (length xs) ≡ false = lt-leb 10 (length xs) short in rw no refl

pub no_header : (bytes : List ℕ) → length bytes < 10 → None ≡ first_record bytes
no_header bytes short =
    none_first bytes (header_short (first_bytes bytes) (omega (arith, length-take (first_size bytes) bytes)))

pub cut_short : (bytes : List ℕ) → length bytes < first_size bytes → None ≡ first_record bytes
cut_short bytes short =
    let all : first_bytes bytes ≡ bytes = take_all (first_size bytes) bytes (omega arith) in
    let no : (length bytes == first_size bytes) ≡ false = ne_eqb (length bytes) (first_size bytes) (λ (e : length bytes ≡ first_size bytes). omega arith) in
    none_first bytes (ap is_record all ∙ and_right _ (length bytes == first_size bytes) no)

pub no_handle : (bytes : List ℕ) → handle_of (first_bytes bytes) ≡ 0 → None ≡ first_record bytes
no_handle bytes none =
    let pdr : List ℕ = first_bytes bytes in
    let no : not (handle_of pdr == 0) ≡ false = not_from_true (handle_of pdr == 0) (eq-eqb (handle_of pdr) 0 none) in
    none_first bytes (and_left _ (length pdr == first_size pdr) (and_left _ (slice_index pdr 4 == 1) (and_right _ (not (handle_of pdr == 0)) no)))

pub no_version : (bytes : List ℕ) → (slice_index (first_bytes bytes) 4 ≡ 1 → ⊥) → None ≡ first_record bytes
no_version bytes other =
    let pdr : List ℕ = first_bytes bytes in
    none_first bytes (and_left _ (length pdr == first_size pdr) (and_right _ (slice_index pdr 4 == 1) (ne_eqb (slice_index pdr 4) 1 other)))

pub one_first : (bytes : List ℕ) → data_length_of bytes < 65536 → first_size bytes ≤ length bytes → (handle_of (first_bytes bytes) ≡ 0 → ⊥) → slice_index (first_bytes bytes) 4 ≡ 1 → Some (first_bytes bytes, drop (first_size bytes) bytes) ≡ first_record bytes
unfolding first_record
one_first bytes small whole handle version =
    let pdr : List ℕ = first_bytes bytes in
    let size : length pdr ≡ first_size bytes = omega (arith, length-take (first_size bytes) bytes) in
    let same : first_size pdr ≡ first_size bytes = ap (λ (n : ℕ). 10 + n) (data_length-take (first_size bytes) bytes (omega arith)) in
    let is : is_record pdr ≡ true =
    and_from _ (length pdr == first_size pdr)
    (and_from _ (slice_index pdr 4 == 1)
    (and_from _ (not (handle_of pdr == 0))
    (and_from (leb 10 (length pdr)) (leb (length pdr) 65545) (le-leb _ _ (omega arith)) (le-leb _ _ (omega arith)))
    (not_from_false (handle_of pdr == 0) (ne_eqb (handle_of pdr) 0 handle)))
    (eq-eqb (slice_index pdr 4) 1 version))
    (eq-eqb _ _ (size ∙ sym same)) in
    rw is refl
