-- Parts of a record that are followed from an offset on.
use Rattle.std.proofs.Common.{◌≡◌, ℕ, ◌+◌, ◌-◌, ◌<◌, ◌≤◌, ◌==◌, min, Bool, true, false, List, [], ◌∷◌, ◌++◌, if◌then◌else◌, suc, length, drop, Some, None, refl, ap, ◌∙◌, subst, arith}
use Rattle.std.specs.List.{All}
use Rattle.std.proofs.lemmas.Bool.Decides.{nat_tests}
use Rattle.std.proofs.lemmas.List.{append-nil, length-take, length-drop, take_all, take-append-drop, drop-drop}
use Rattle.pldm_wire.specs.Crc.{crc}
use Rattle.pldm_wire.specs.RecordParts.{Part}
use Rattle.pldm_wire.specs.declared.limits.TheConstants.{MAX_PART_BYTES}
use Rattle.pldm_records.specs.Records.{checksum_with, flag_of_part, is_last_part, next_data_transfer_handle, offset_after, part_bytes, part_of}
use Rattle.pldm_records.specs.Transfers.{Followed, IsPartFrom, StatePlaces, joined_parts, parts_asked}

-- how many bytes a part has
length-part_bytes : (pdr : List ℕ) (offset count : ℕ) → length (part_bytes pdr offset count) ≡ min (min count MAX_PART_BYTES) (length pdr - offset)
length-part_bytes pdr offset count =
    length-take (min count MAX_PART_BYTES) (drop offset pdr) ∙ ap (λ n. min (min count MAX_PART_BYTES) n) (length-drop offset pdr)

-- what no transfer handle follows is the last part
last_from_none : (pdr : List ℕ) (offset count : ℕ) → 0 < count → 0 ≡ next_data_transfer_handle pdr offset count → is_last_part pdr offset count ≡ true
last_from_none pdr offset count asks none = let bytes = length-part_bytes pdr offset count in grind (arith, nat_tests)

-- what a transfer handle follows is not, and has the bytes before the next offset
not_last_from_next : (pdr : List ℕ) (offset count next : ℕ) → 0 < next → next ≡ next_data_transfer_handle pdr offset count → is_last_part pdr offset count ≡ false
not_last_from_next pdr offset count next more is = grind (arith, nat_tests)

-- the last part has all bytes from its offset on
last_bytes : (pdr : List ℕ) (offset count : ℕ) → is_last_part pdr offset count ≡ true → part_bytes pdr offset count ≡ drop offset pdr
last_bytes pdr offset count last =
    let bytes = length-part_bytes pdr offset count in
    let rest = length-drop offset pdr in
    let short : length (drop offset pdr) ≤ min count MAX_PART_BYTES = grind (arith, nat_tests) in
    take_all (min count MAX_PART_BYTES) (drop offset pdr) short

-- any other has as many as were asked for, and the rest follows
more_bytes : (pdr : List ℕ) (offset count next : ℕ) → 0 < next → next ≡ next_data_transfer_handle pdr offset count → part_bytes pdr offset count ++ drop next pdr ≡ drop offset pdr
more_bytes pdr offset count next more is =
    let bytes = length-part_bytes pdr offset count in
    let next_is : next ≡ offset + min count MAX_PART_BYTES = grind (arith, nat_tests) in
    rw (next_is, ← drop-drop (min count MAX_PART_BYTES) offset pdr) (take-append-drop (min count MAX_PART_BYTES) (drop offset pdr))

next_within : (pdr : List ℕ) (offset count next : ℕ) → 0 < next → next ≡ next_data_transfer_handle pdr offset count → next < length pdr
next_within pdr offset count next more is = grind (arith, nat_tests)

joined_from : (pdr : List ℕ) (offset : ℕ) (parts : List Part) → Followed pdr offset parts → joined_parts parts ≡ drop offset pdr
joined_from pdr offset [] followed = absurd followed
joined_from pdr offset (last ∷ []) followed =
    let bytes : last.bytes ≡ part_bytes pdr offset followed.count = ap (λ (p : Part). p.bytes) followed.part_is in
    rw (append-nil, bytes) (last_bytes pdr offset followed.count (last_from_none pdr offset followed.count followed.asks followed.next_is))
joined_from pdr offset (part ∷ following ∷ rest) followed =
    let from = followed.2 in
    let bytes : part.bytes ≡ part_bytes pdr offset from.count = ap (λ (p : Part). p.bytes) from.part_is in
    let others : joined_parts (following ∷ rest) ≡ drop followed.0 pdr = joined_from pdr followed.0 (following ∷ rest) followed.3 in
    rw (bytes, others) (more_bytes pdr offset from.count followed.0 followed.1 from.next_is)

pub parts_join : (pdr : List ℕ) (parts : List Part) → Followed pdr 0 parts → joined_parts parts ≡ pdr
parts_join pdr parts followed = joined_from pdr 0 parts followed

last_checksum : (pdr : List ℕ) (is_first : Bool) → checksum_with (flag_of_part is_first true) pdr ≡ (if is_first then None else Some (crc pdr))
last_checksum pdr true = refl
last_checksum pdr false = refl

other_checksum : (pdr : List ℕ) (is_first : Bool) → checksum_with (flag_of_part is_first false) pdr ≡ None
other_checksum pdr true = refl
other_checksum pdr false = refl

places_from : (pdr : List ℕ) (offset : ℕ) (parts : List Part) → Followed pdr offset parts → StatePlaces pdr (offset == 0) parts
places_from pdr offset [] followed = absurd followed
places_from pdr offset (last ∷ []) followed =
    let is_last = last_from_none pdr offset followed.count followed.asks followed.next_is in
    let flag : last.flag ≡ flag_of_part (offset == 0) true = ap (λ (p : Part). p.flag) followed.part_is ∙ ap (λ (b : Bool). flag_of_part (offset == 0) b) is_last in
    let checksum : last.transfer_crc ≡ checksum_with (flag_of_part (offset == 0) true) pdr = ap (λ (p : Part). p.transfer_crc) followed.part_is ∙ ap (λ (b : Bool). checksum_with (flag_of_part (offset == 0) b) pdr) is_last in
    (flag, checksum ∙ last_checksum pdr (offset == 0))
places_from pdr offset (part ∷ following ∷ rest) followed =
    let from = followed.2 in
    let is_last = not_last_from_next pdr offset from.count followed.0 followed.1 from.next_is in
    let flag : part.flag ≡ flag_of_part (offset == 0) false = ap (λ (p : Part). p.flag) from.part_is ∙ ap (λ (b : Bool). flag_of_part (offset == 0) b) is_last in
    let checksum : part.transfer_crc ≡ checksum_with (flag_of_part (offset == 0) false) pdr = ap (λ (p : Part). p.transfer_crc) from.part_is ∙ ap (λ (b : Bool). checksum_with (flag_of_part (offset == 0) b) pdr) is_last in
    let later : (followed.0 == 0) ≡ false = grind (arith, nat_tests, followed.1) in
    let others = places_from pdr followed.0 (following ∷ rest) followed.3 in
    (flag, checksum ∙ other_checksum pdr (offset == 0), subst (λ (b : Bool). StatePlaces pdr b (following ∷ rest)) later others)

pub parts_tell_places : (pdr : List ℕ) (parts : List Part) → Followed pdr 0 parts → StatePlaces pdr true parts
parts_tell_places pdr parts followed = places_from pdr 0 parts followed

one_more : (pdr : List ℕ) (offset next : ℕ) (part : Part) (rest : List Part) → 0 < next → IsPartFrom pdr offset next part → Followed pdr next rest → Followed pdr offset (part ∷ rest)
one_more pdr offset next part [] more from followed = absurd followed
one_more pdr offset next part (following ∷ rest) more from followed = (next, more, from, followed)

asked_from : (pdr : List ℕ) (offset count : ℕ) (counts : List ℕ) (is_last : Bool) → is_last_part pdr offset count ≡ is_last → 0 < count → length pdr < offset + suc (length counts) → ((next : ℕ) → next ≤ length pdr → length pdr < next + length counts → Followed pdr next (parts_asked pdr next counts)) → Followed pdr offset (part_of pdr offset count ∷ (if is_last then [] else parts_asked pdr (next_data_transfer_handle pdr offset count) counts))
asked_from pdr offset count counts true is asks enough others = record {
  count = count;
  asks = asks;
  part_is = refl;
  next_is = rw is refl;
}
asked_from pdr offset count counts false is asks enough others =
    let bytes = length-part_bytes pdr offset count in
    let next_is : next_data_transfer_handle pdr offset count ≡ offset_after pdr offset count = rw is refl in
    let before : offset_after pdr offset count < length pdr = grind (arith, nat_tests) in
    let some : 0 < length (part_bytes pdr offset count) = omega (arith, bytes, before) in
    let more : 0 < next_data_transfer_handle pdr offset count = rw next_is (omega arith) in
    one_more pdr offset (next_data_transfer_handle pdr offset count) (part_of pdr offset count) (parts_asked pdr (next_data_transfer_handle pdr offset count) counts) more
    (record { count = count; asks = asks; part_is = refl; next_is = refl })
    (others (next_data_transfer_handle pdr offset count) (rw next_is (omega arith)) (rw next_is (omega arith)))

asked : (pdr : List ℕ) (offset : ℕ) (counts : List ℕ) → All (λ count. 0 < count) counts → offset ≤ length pdr → length pdr < offset + length counts → Followed pdr offset (parts_asked pdr offset counts)
asked pdr offset [] asks within enough = absurd (omega arith)
asked pdr offset (count ∷ counts) asks within enough =
    asked_from pdr offset count counts (is_last_part pdr offset count) refl (asks 0 0 (omega arith)) enough
    (λ next within enough. asked pdr next counts (λ k d h. asks (suc k) d (omega arith)) within enough)

pub parts_end : (pdr counts : List ℕ) → All (λ count. 0 < count) counts → length pdr < length counts → Followed pdr 0 (parts_asked pdr 0 counts)
parts_end pdr counts asks enough = asked pdr 0 counts asks (omega arith) (omega arith)
