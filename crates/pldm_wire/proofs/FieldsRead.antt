-- Reading by a layout gives the values that stand in the bytes, and all of them are read.
use Rattle.std.proofs.Common.{◌≡◌, ℕ, ◌+◌, ◌*◌, ◌<◌, ◌≤◌, ◌==◌, ◌||◌, nat_lt, Bool, true, false, List, [], ◌∷◌, ◌++◌, length, slice_index, take, drop, Option, Some, None, Result, Ok, Err, IfOk, is_some, inl, inr, refl, sym, ap, ◌∙◌, arith, eqb-true, ltb-false, length-append, length-drop, length-take-le, get_or-drop, take-append-drop, drop-drop, drop-cons, drop_of_length-le, take_all, ⊎_elim}
use Rattle.std.proofs.Math.Seq.{drop-append_seam}
use Rattle.std.proofs.lemmas.Bool.{le-ltb, eq-eqb, or_cases, or_right, cond-true, OnTrue_at, OnFalse_at}
use Rattle.std.proofs.lemmas.List.{take-append-le}
use Rattle.byteorder.specs.Endian.{little_from, little_number}
use Rattle.byteorder.specs.Numbers.{little_from-take}
use Rattle.pldm_wire.specs.Layouts.{Shape, Byte, Number, SizeCode, Sized, Flag, Checksum, Bytes, Reserved, Sets, SensorStates, EffecterStates, Layout, End, Rest, EndOr, Then, Value, Values, InRange, AllInRange, StandsIn, StandIn, field_bytes, bytes_of}
use Rattle.pldm_wire.specs.FieldReading.{FieldFault, WrongLength, WrongValue, and_then, map_ok, some_or_wrong, passing, span, field_in, values_at}
use Rattle.pldm_wire.specs.Numbers.{sized, value_of}
use Rattle.pldm_wire.specs.RecordParts.{checksum_bytes}
use Rattle.pldm_wire.specs.Sizes.{size_code, size_of, width}
use Rattle.pldm_wire.specs.States.{sets_in, sensor_states_in, effecter_states_in}
use Rattle.pldm_wire.specs.TransferFlags.{flag_number, flag_of}
use Rattle.pldm_wire.specs.declared.size.Size.{Size}
use Rattle.pldm_wire.specs.declared.transfer_flag.TransferFlag.{TransferFlag}
use Rattle.pldm_wire.proofs.Cells.{by_test}
use Rattle.pldm_wire.proofs.FieldLists.{length-sets_in, length-sensor_states_in, length-effecter_states_in, length-sets_bytes, length-sensor_states_bytes, length-effecter_states_bytes, sets_read, sensor_states_read, effecter_states_read, sets_bytes, sensor_states_bytes, effecter_states_bytes}
use Rattle.pldm_wire.proofs.FlagNumbers.{flag_of-flag_number, number_from_flag}
use Rattle.pldm_wire.proofs.Placed.{little_from_drop}
use Rattle.pldm_wire.proofs.SizeCodes.{size_of-size_code, code_from_size}
use Rattle.pldm_wire.proofs.WrittenNumbers.{stands, stands_sized}

-- what stands after these bytes at a place
split_here : (place : ℕ) (here rest bytes : List ℕ) → place ≤ length bytes → drop place bytes ≡ here ++ rest
    → (drop (place + length here) bytes ≡ rest) × (place + length here ≤ length bytes)
split_here place here rest bytes within split = (
  sym (drop-drop (length here) place bytes) ∙ ap (λ (l : List ℕ). drop (length here) l) split ∙ drop-append_seam here rest,
  omega (arith, length-drop place bytes, ap length split, length-append here rest),
)

-- how many bytes a checksum has
checksum_span : (is_there : Bool) (v : Option ℕ) → is_some v ≡ is_there → length (checksum_bytes v) ≡ span (Checksum is_there)
checksum_span true (Some c) h = refl
checksum_span true None h = absurd (OnTrue_at h tt)
checksum_span false None h = refl
checksum_span false (Some c) h = absurd (OnFalse_at h tt)

-- a field has the bytes of its shape
spans : (shape : Shape) (v : Value shape) (here : List ℕ) → StandsIn shape v here → length here ≡ span shape
spans (Byte test) v here h = ap length h.0
spans (Number count test) v here h = h.0.0
spans SizeCode v here h = ap length h
spans (Sized size) v here h = h.0
spans Flag v here h = ap length h
spans (Checksum is_there) v here h = ap length h.1 ∙ checksum_span is_there v h.0
spans (Bytes count) v here h = h.0
spans Reserved v here h = h
spans (Sets count) v here h = omega (arith, ap length h.1, length-sets_bytes v, h.0)
spans (SensorStates count) v here h = omega (arith, ap length h.1, length-sensor_states_bytes v, h.0)
spans (EffecterStates count) v here h = omega (arith, ap length h.1, length-effecter_states_bytes v, h.0)

-- the number at a place is that of the bytes there
number_here : (count place : ℕ) (here rest bytes : List ℕ) → length here ≡ count → drop place bytes ≡ here ++ rest
    → little_from place count bytes ≡ little_number count here
number_here count place here rest bytes h split =
    sym (little_from_drop place count bytes) ∙ ap (λ (l : List ℕ). little_from 0 count l) split
    ∙ sym (little_from-take 0 count count (here ++ rest) (omega arith))
    ∙ ap (λ (l : List ℕ). little_from 0 count l) (take-append-le count here rest (omega arith) ∙ take_all count here (omega arith))

-- the byte at a place is the first of those from there on
byte_here : (place b : ℕ) (rest bytes : List ℕ) → drop place bytes ≡ b ∷ rest → slice_index bytes place ≡ b
byte_here place b rest bytes split =
    let there : place + 0 ≡ place = omega arith in
    ap (λ (i : ℕ). slice_index bytes i) (sym there) ∙ sym (get_or-drop place bytes 0 0) ∙ ap (λ (l : List ℕ). slice_index l 0) split

-- the bytes there are the first of those from there on
bytes_here : (count place : ℕ) (here rest bytes : List ℕ) → length here ≡ count → drop place bytes ≡ here ++ rest → take count (drop place bytes) ≡ here
bytes_here count place here rest bytes h split =
    ap (λ (l : List ℕ). take count l) split ∙ take-append-le count here rest (omega arith) ∙ take_all count here (omega arith)

checksum_read : (is_there : Bool) (v : Option ℕ) (place : ℕ) (here rest bytes : List ℕ) → drop place bytes ≡ here ++ rest
    → is_some v ≡ is_there → here ≡ checksum_bytes v → field_in (Checksum is_there) place bytes ≡ Ok v
checksum_read true (Some c) place here rest bytes split h is =
    ap (λ (n : ℕ). Ok (Some n)) (byte_here place c rest bytes (split ∙ ap (λ (l : List ℕ). l ++ rest) is))
checksum_read true None place here rest bytes split h is = absurd (OnTrue_at h tt)
checksum_read false None place here rest bytes split h is = refl
checksum_read false (Some c) place here rest bytes split h is = absurd (OnFalse_at h tt)

-- a field that stands at a place is read there
field_read : (shape : Shape) (v : Value shape) (place : ℕ) (here rest bytes : List ℕ) → drop place bytes ≡ here ++ rest
    → StandsIn shape v here → field_in shape place bytes ≡ Ok v
field_read (Byte test) v place here rest bytes split h =
    rw (byte_here place v rest bytes (split ∙ ap (λ (l : List ℕ). l ++ rest) h.0), h.1) refl
field_read (Number count test) v place here rest bytes split h =
    let number : little_from place count bytes ≡ v = number_here count place here rest bytes h.0.0 split ∙ sym h.0.1 in
    rw (number, h.1) refl
field_read SizeCode v place here rest bytes split h =
    rw (byte_here place (size_code v) rest bytes (split ∙ ap (λ (l : List ℕ). l ++ rest) h), size_of-size_code v) refl
field_read (Sized size) v place here rest bytes split h =
    let number : little_from place (width size) bytes ≡ little_number (width size) here = number_here (width size) place here rest bytes h.0 split in
    ap (λ (n : ℕ). Ok (value_of size n)) number ∙ ap (λ x. Ok x) (sym h.1)
field_read Flag v place here rest bytes split h =
    rw (byte_here place (flag_number v) rest bytes (split ∙ ap (λ (l : List ℕ). l ++ rest) h), flag_of-flag_number v) refl
field_read (Checksum is_there) v place here rest bytes split h = checksum_read is_there v place here rest bytes split h.0 h.1
field_read (Bytes count) v place here rest bytes split h =
    ap (λ (l : List ℕ). Ok l) (bytes_here count place here rest bytes h.0 split ∙ sym h.1)
field_read Reserved v place here rest bytes split h = refl
field_read (Sets count) v place here rest bytes split h =
    ap (λ (l : List ℕ). Ok (sets_in l)) (bytes_here (2 * count) place here rest bytes (spans (Sets count) v here h) split ∙ h.1)
    ∙ ap (λ fs. Ok fs) (sets_read v)
field_read (SensorStates count) v place here rest bytes split h =
    ap (λ (l : List ℕ). Ok (sensor_states_in l)) (bytes_here (4 * count) place here rest bytes (spans (SensorStates count) v here h) split ∙ h.1)
    ∙ ap (λ fs. Ok fs) (sensor_states_read v)
field_read (EffecterStates count) v place here rest bytes split h =
    ap (λ (l : List ℕ). Ok (effecter_states_in l)) (bytes_here (3 * count) place here rest bytes (spans (EffecterStates count) v here h) split ∙ h.1)
    ∙ ap (λ fs. Ok fs) (effecter_states_read v)

-- the values that stand from a place on are read there
pub values_read : (layout : Layout) (v : Values layout) (place : ℕ) (rest bytes : List ℕ) → place ≤ length bytes → drop place bytes ≡ rest
    → StandIn layout v rest → values_at layout place bytes ≡ Ok v
values_read End v place rest bytes within split h =
    let all : (length bytes == place) ≡ true = eq-eqb (length bytes) place (omega (arith, length-drop place bytes, ap length (split ∙ h))) in
    rw all refl
values_read (Rest test) v place rest bytes within split h =
    let here : drop place bytes ≡ v = split ∙ h.0 in
    rw (here, h.1) refl
values_read (EndOr count) v place rest bytes within split h =
    ⊎_elim
    (λ none. let all : (length bytes == place) ≡ true = eq-eqb (length bytes) place (omega (arith, length-drop place bytes, ap length (split ∙ none))) in rw all refl)
    (λ some. cond-true ((length bytes == place) || (length bytes == place + count)) (Ok tt) (Err WrongLength)
    (or_right (length bytes == place) (length bytes == place + count) (eq-eqb (length bytes) (place + count) (omega (arith, length-drop place bytes, ap length split, some)))))
    h
values_read (Then shape layout) v place rest bytes within split h =
    let on = split_here place h.0 h.1 bytes within (split ∙ h.4) in
    let to = spans shape v.0 h.0 h.2 in
    let test : nat_lt (length bytes) (place + span shape) ≡ false = le-ltb (length bytes) (place + span shape) (omega (arith, on.1, to)) in
    let field = field_read shape v.0 place h.0 h.1 bytes (split ∙ h.4) h.2 in
    let more = values_read (layout v.0) v.1 (place + span shape) h.1 bytes (omega (arith, on.1, to)) (ap (λ (n : ℕ). drop (place + n) bytes) (sym to) ∙ on.0) h.3 in
    rw (test, field, more) refl

-- the byte that is there
one_here : (place : ℕ) (bytes : List ℕ) → place < length bytes → take 1 (drop place bytes) ≡ slice_index bytes place ∷ []
one_here place bytes h = ap (λ (l : List ℕ). take 1 l) (drop-cons bytes place 0 h)

-- as many bytes as are there
many_here : (count place : ℕ) (bytes : List ℕ) → place + count ≤ length bytes → length (take count (drop place bytes)) ≡ count
many_here count place bytes h = length-take-le count (drop place bytes) (omega (arith, length-drop place bytes))

number_stands : (count place : ℕ) (bytes : List ℕ) → place + count ≤ length bytes
    → little_from place count bytes ≡ little_number count (take count (drop place bytes))
number_stands count place bytes h =
    number_here count place (take count (drop place bytes)) (drop count (drop place bytes)) bytes (many_here count place bytes h)
    (sym (take-append-drop count (drop place bytes)))

passing_found : (P : ℕ → Type 0) (test : ℕ → Bool) (n : ℕ) → (test n ≡ true → P n) → IfOk (passing test n) P
passing_found P test n h = by_test (λ (r : Result ℕ FieldFault). IfOk r P) (test n) (Ok n) (Err WrongValue) h (λ _. tt)

size_found : (place : ℕ) (bytes : List ℕ) (o : Option Size) → place < length bytes → size_of (slice_index bytes place) ≡ o
    → IfOk (some_or_wrong o) (λ s. take 1 (drop place bytes) ≡ size_code s ∷ [])
size_found place bytes None h e = tt
size_found place bytes (Some s) h e = one_here place bytes h ∙ ap (λ (n : ℕ). n ∷ []) (code_from_size (slice_index bytes place) s e)

flag_found : (place : ℕ) (bytes : List ℕ) (o : Option TransferFlag) → place < length bytes → flag_of (slice_index bytes place) ≡ o
    → IfOk (some_or_wrong o) (λ f. take 1 (drop place bytes) ≡ flag_number f ∷ [])
flag_found place bytes None h e = tt
flag_found place bytes (Some f) h e = one_here place bytes h ∙ ap (λ (n : ℕ). n ∷ []) (number_from_flag (slice_index bytes place) f e)

-- a field that is read stands in the bytes at its place
field_found : (shape : Shape) (place : ℕ) (bytes : List ℕ) → place + span shape ≤ length bytes
    → IfOk (field_in shape place bytes) (λ v. StandsIn shape v (take (span shape) (drop place bytes)))
field_found (Byte test) place bytes long =
    passing_found (λ b. (take 1 (drop place bytes) ≡ b ∷ []) × (test b ≡ true)) test (slice_index bytes place) (λ t. (one_here place bytes (omega arith), t))
field_found (Number count test) place bytes long =
    passing_found (λ n. ((length (take count (drop place bytes)) ≡ count) × (n ≡ little_number count (take count (drop place bytes)))) × (test n ≡ true)) test (little_from place count bytes)
    (λ t. ((many_here count place bytes long, number_stands count place bytes long), t))
field_found SizeCode place bytes long = size_found place bytes (size_of (slice_index bytes place)) (omega arith) refl
field_found (Sized size) place bytes long =
    (many_here (width size) place bytes long, ap (λ (n : ℕ). value_of size n) (number_stands (width size) place bytes long))
field_found Flag place bytes long = flag_found place bytes (flag_of (slice_index bytes place)) (omega arith) refl
field_found (Checksum true) place bytes long = (refl, one_here place bytes (omega arith))
field_found (Checksum false) place bytes long = (refl, refl)
field_found (Bytes count) place bytes long = (many_here count place bytes long, refl)
field_found Reserved place bytes long = many_here 1 place bytes long
field_found (Sets count) place bytes long =
    let here = take (2 * count) (drop place bytes) in
    let many : length here ≡ 2 * count = many_here (2 * count) place bytes long in
    (omega (arith, length-sets_in here, many), sym (sets_bytes count here many))
field_found (SensorStates count) place bytes long =
    let here = take (4 * count) (drop place bytes) in
    let many : length here ≡ 4 * count = many_here (4 * count) place bytes long in
    (omega (arith, length-sensor_states_in here, many), sym (sensor_states_bytes count here many))
field_found (EffecterStates count) place bytes long =
    let here = take (3 * count) (drop place bytes) in
    let many : length here ≡ 3 * count = many_here (3 * count) place bytes long in
    (omega (arith, length-effecter_states_in here, many), sym (effecter_states_bytes count here many))

-- a field and what follows it
pair_found : (shape : Shape) (layout : Value shape → Layout) (v : Value shape) (bytes here rest : List ℕ) (r : Result (Values (layout v)) FieldFault)
    → StandsIn shape v here → bytes ≡ here ++ rest → IfOk r (λ vs. StandIn (layout v) vs rest)
    → IfOk (map_ok {B = Values (Then shape layout)} (λ vs. (v, vs)) r) (λ vs. StandIn (Then shape layout) vs bytes)
pair_found shape layout v bytes here rest (Err fault) stands split more = tt
pair_found shape layout v bytes here rest (Ok vs) stands split more = (here, rest, stands, more, split)

next_found : (shape : Shape) (layout : Value shape → Layout) (place : ℕ) (bytes : List ℕ)
    → ((v : Value shape) → IfOk (values_at (layout v) (place + span shape) bytes) (λ vs. StandIn (layout v) vs (drop (place + span shape) bytes)))
    → (r : Result (Value shape) FieldFault) → IfOk r (λ v. StandsIn shape v (take (span shape) (drop place bytes)))
    → IfOk (and_then {B = Values (Then shape layout)} r (λ v. map_ok (λ vs. (v, vs)) (values_at (layout v) (place + span shape) bytes))) (λ vs. StandIn (Then shape layout) vs (drop place bytes))
next_found shape layout place bytes more (Err fault) h = tt
next_found shape layout place bytes more (Ok v) h =
    pair_found shape layout v (drop place bytes) (take (span shape) (drop place bytes)) (drop (place + span shape) bytes) (values_at (layout v) (place + span shape) bytes) h
    (sym (take-append-drop (span shape) (drop place bytes)) ∙ ap (λ (l : List ℕ). take (span shape) (drop place bytes) ++ l) (drop-drop (span shape) place bytes))
    (more v)

-- what is read stands from the place on
pub values_found : (layout : Layout) (place : ℕ) (bytes : List ℕ) → place ≤ length bytes
    → IfOk (values_at layout place bytes) (λ v. StandIn layout v (drop place bytes))
values_found End place bytes within =
    by_test (λ (r : Result (Unit {0}) FieldFault). IfOk r (λ v. StandIn End v (drop place bytes))) (length bytes == place) (Ok tt) (Err WrongLength)
    (λ t. drop_of_length-le bytes (omega (arith, eqb-true (length bytes) place t))) (λ _. tt)
values_found (Rest test) place bytes within =
    by_test (λ (r : Result (List ℕ) FieldFault). IfOk r (λ v. StandIn (Rest test) v (drop place bytes))) (test (drop place bytes)) (Ok (drop place bytes)) (Err WrongLength)
    (λ t. (refl, t)) (λ _. tt)
values_found (EndOr count) place bytes within =
    by_test (λ (r : Result (Unit {0}) FieldFault). IfOk r (λ v. StandIn (EndOr count) v (drop place bytes))) ((length bytes == place) || (length bytes == place + count)) (Ok tt) (Err WrongLength)
    (λ t. ⊎_elim (λ none. inl (drop_of_length-le bytes (omega (arith, eqb-true (length bytes) place none))))
    (λ some. inr (omega (arith, length-drop place bytes, eqb-true (length bytes) (place + count) some)))
    (or_cases (length bytes == place) (length bytes == place + count) t))
    (λ _. tt)
values_found (Then shape layout) place bytes within =
    by_test (λ (r : Result (Value shape) FieldFault). IfOk (and_then {B = Values (Then shape layout)} r (λ v. map_ok (λ vs. (v, vs)) (values_at (layout v) (place + span shape) bytes))) (λ vs. StandIn (Then shape layout) vs (drop place bytes)))
    (nat_lt (length bytes) (place + span shape)) (Err WrongLength) (field_in shape place bytes) (λ _. tt)
    (λ t. let long : place + span shape ≤ length bytes = ltb-false (length bytes) (place + span shape) t in
    next_found shape layout place bytes (λ v. values_found (layout v) (place + span shape) bytes long) (field_in shape place bytes) (field_found shape place bytes long))

-- a field stands in the bytes that it is written as
field_written : (shape : Shape) (v : Value shape) → InRange shape v → StandsIn shape v (field_bytes shape v)
field_written (Byte test) v h = (refl, h.1)
field_written (Number count test) v h = (stands count v h.0, h.1)
field_written SizeCode v h = refl
field_written (Sized size) v h = stands_sized (sized size v) h
field_written Flag v h = refl
field_written (Checksum is_there) v h = (h, refl)
field_written (Bytes count) v h = (h, refl)
field_written Reserved v h = refl
field_written (Sets count) v h = (h, refl)
field_written (SensorStates count) v h = (h, refl)
field_written (EffecterStates count) v h = (h, refl)

-- values stand in the data that they are written as
pub values_written : (layout : Layout) (v : Values layout) → AllInRange layout v → StandIn layout v (bytes_of layout v)
values_written End v h = refl
values_written (Rest test) v h = (refl, h)
values_written (EndOr count) v h = inl refl
values_written (Then shape layout) v h =
    (field_bytes shape v.0, bytes_of (layout v.0) v.1, field_written shape v.0 h.0, values_written (layout v.0) v.1 h.1, refl)
