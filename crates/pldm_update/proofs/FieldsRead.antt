-- Reading by a layout gives the values that stand in the bytes, and all of them are read.
use Rattle.std.proofs.Common.{◌≡◌, ℕ, suc, ◌+◌, ◌-◌, ◌<◌, ◌≤◌, ◌==◌, nat_lt, true, false, List, [], ◌∷◌, ◌++◌, length, slice_index, take, drop, Option, Some, None, Result, Ok, Err, IfOk, refl, sym, ap, ◌∙◌, subst, arith, eqb-true, ltb-false, length-append, length-drop, length-take-le, get_or-drop, take-append-drop, drop-drop, drop-cons, drop_of_length-le, take_all, add-one}
use Rattle.std.proofs.Math.Seq.{drop-append_seam}
use Rattle.std.proofs.lemmas.Bool.{le-ltb, eq-eqb}
use Rattle.std.proofs.lemmas.List.{take-append-le}
use Rattle.byteorder.specs.Endian.{little_from, little_number}
use Rattle.byteorder.specs.Numbers.{little_from-take}
use Rattle.pldm_wire.proofs.Placed.{little_from_drop}
use Rattle.pldm_wire.proofs.Cells.{by_test}
use Rattle.pldm_wire.proofs.WrittenNumbers.{stands}
use Rattle.pldm_update.specs.TableParts.{part_number, part_of}
use Rattle.pldm_update.specs.UpdateStates.{state_number, state_of}
use Rattle.pldm_update.specs.VersionTexts.{version_text}
use Rattle.pldm_update.specs.Layouts.{Shape, Byte, Number, Part, State, Text, Layout, End, Rest, Identifiers, Parameters, Then, Value, Values, InRange, AllInRange, StandsIn, StandIn, field_bytes, bytes_of}
use Rattle.pldm_update.specs.FieldReading.{and_then, map_ok, some_or_wrong, byte_at, number_at, part_at, state_at, text_at, rest_at, end_at, field_at, after, values_at}
use Rattle.pldm_update.specs.declared.table_part.TablePart.{TablePart}
use Rattle.pldm_update.specs.declared.update_state.UpdateState.{UpdateState}
use Rattle.pldm_update.specs.declared.fault.UpdateFault.{UpdateFault}
use Rattle.pldm_update.specs.declared.fault.UpdateFault.TheVariants.{Length}
use Rattle.pldm_update.proofs.IdentifiersRead.{identifiers_only, identifiers_found, identifiers_written}
use Rattle.pldm_update.proofs.ParametersRead.{parameters_only, parameters_found, parameters_written}
use Rattle.pldm_update.proofs.FieldNumbers.{part_of-part_number, number_from_part, state_of-state_number, number_from_state}

-- what stands after these bytes at a place
split_here : (place : ℕ) (here rest bytes : List ℕ) → place ≤ length bytes → drop place bytes ≡ here ++ rest
    → (drop (place + length here) bytes ≡ rest) × (place + length here ≤ length bytes)
split_here place here rest bytes within split = (
  sym (drop-drop (length here) place bytes) ∙ ap (λ (l : List ℕ). drop (length here) l) split ∙ drop-append_seam here rest,
  omega (arith, length-drop place bytes, ap length split, length-append here rest),
)

-- the bytes of a field reach to the place after it
width : (shape : Shape) (v : Value shape) (here : List ℕ) (place : ℕ) → StandsIn shape v here → after shape v place ≡ place + length here
width Byte v here place h = omega (arith, ap length h)
width (Number count) v here place h = omega (arith, h.0)
width Part v here place h = omega (arith, ap length h)
width State v here place h = omega (arith, ap length h)
width Text v here place h = omega (arith, ap length h)

-- the number at a place is that of the bytes there
number_here : (count place : ℕ) (here rest bytes : List ℕ) → length here ≡ count → drop place bytes ≡ here ++ rest
    → little_from place count bytes ≡ little_number count here
number_here count place here rest bytes h split =
    sym (little_from_drop place count bytes) ∙ ap (λ (l : List ℕ). little_from 0 count l) split
    ∙ sym (little_from-take 0 count count (here ++ rest) (omega arith))
    ∙ ap (λ (l : List ℕ). little_from 0 count l) (take-append-le count here rest (omega arith) ∙ take_all count here (omega arith))

-- the byte at a place is the first of those from there on
byte_here : (place b : ℕ) (rest bytes : List ℕ) → drop place bytes ≡ b ∷ rest → slice_index bytes place ≡ b
byte_here place b rest bytes split =
    let there : place + 0 ≡ place = omega arith in
    ap (λ (i : ℕ). slice_index bytes i) (sym there) ∙ sym (get_or-drop place bytes 0 0) ∙ ap (λ (l : List ℕ). slice_index l 0) split

-- so is a later byte
byte_after : (place k : ℕ) (bytes : List ℕ) → slice_index bytes (place + k) ≡ slice_index (drop place bytes) k
byte_after place k bytes = sym (get_or-drop place bytes k 0)

-- a field that stands at a place is read there
field_read : (shape : Shape) (v : Value shape) (place : ℕ) (here rest bytes : List ℕ) → place ≤ length bytes → drop place bytes ≡ here ++ rest
    → StandsIn shape v here → field_at shape place bytes ≡ Ok v
unfolding byte_at number_at part_at state_at text_at
field_read Byte v place here rest bytes within split h =
    let test : nat_lt (length bytes) (place + 1) ≡ false = le-ltb (length bytes) (place + 1) (omega (arith, (split_here place here rest bytes within split).1, ap length h)) in
    let byte = byte_here place v rest bytes (split ∙ ap (λ (l : List ℕ). l ++ rest) h) in
    rw (test, byte) refl
field_read (Number count) v place here rest bytes within split h =
    let test : nat_lt (length bytes) (place + count) ≡ false = le-ltb (length bytes) (place + count) (omega (arith, (split_here place here rest bytes within split).1, h.0)) in
    rw (test, number_here count place here rest bytes h.0 split, h.1) refl
field_read Part v place here rest bytes within split h =
    let test : nat_lt (length bytes) (place + 1) ≡ false = le-ltb (length bytes) (place + 1) (omega (arith, (split_here place here rest bytes within split).1, ap length h)) in
    let byte = byte_here place (part_number v) rest bytes (split ∙ ap (λ (l : List ℕ). l ++ rest) h) in
    rw (test, byte, part_of-part_number v) refl
field_read State v place here rest bytes within split h =
    let test : nat_lt (length bytes) (place + 1) ≡ false = le-ltb (length bytes) (place + 1) (omega (arith, (split_here place here rest bytes within split).1, ap length h)) in
    let byte = byte_here place (state_number v) rest bytes (split ∙ ap (λ (l : List ℕ). l ++ rest) h) in
    rw (test, byte, state_of-state_number v) refl
field_read Text v place here rest bytes within split h =
    let cells : drop place bytes ≡ v.string_type ∷ length v.text ∷ (v.text ++ rest) = split ∙ ap (λ (l : List ℕ). l ++ rest) h in
    let long = (split_here place here rest bytes within split).1 in
    let fixed : nat_lt (length bytes) (place + 2) ≡ false = le-ltb (length bytes) (place + 2) (omega (arith, long, ap length h)) in
    let whole : nat_lt (length bytes) (place + 2 + length v.text) ≡ false = le-ltb (length bytes) (place + 2 + length v.text) (omega (arith, long, ap length h)) in
    let first = byte_here place v.string_type (length v.text ∷ (v.text ++ rest)) bytes cells in
    let count : slice_index bytes (place + 1) ≡ length v.text = byte_after place 1 bytes ∙ ap (λ (l : List ℕ). slice_index l 1) cells in
    let tail : drop (place + 2) bytes ≡ v.text ++ rest = sym (drop-drop 2 place bytes) ∙ ap (λ (l : List ℕ). drop 2 l) cells in
    let text : take (length v.text) (v.text ++ rest) ≡ v.text = take-append-le (length v.text) v.text rest (omega arith) ∙ take_all (length v.text) v.text (omega arith) in
    rw (fixed, count, whole, first, tail, text) refl

-- the values that stand from a place on are read there
pub values_read : (layout : Layout) (v : Values layout) (place : ℕ) (rest bytes : List ℕ) → place ≤ length bytes → drop place bytes ≡ rest
    → StandIn layout v rest → values_at layout place bytes ≡ Ok v
unfolding end_at rest_at
values_read End v place rest bytes within split h =
    let all : (length bytes == place) ≡ true = eq-eqb (length bytes) place (omega (arith, length-drop place bytes, ap length (split ∙ h))) in
    rw all refl
values_read (Rest most) v place rest bytes within split h =
    let test : nat_lt most (length bytes - place) ≡ false = le-ltb most (length bytes - place) (omega (arith, length-drop place bytes, ap length (split ∙ h.0), h.1)) in
    rw (test, split ∙ h.0) refl
values_read Identifiers v place rest bytes within split h = rw (split, identifiers_only rest v h) refl
values_read Parameters v place rest bytes within split h = rw (split, parameters_only rest v h) refl
values_read (Then shape layout) v place rest bytes within split h =
    let on = split_here place h.0 h.1 bytes within (split ∙ h.4) in
    let to = width shape v.0 h.0 place h.2 in
    let field = field_read shape v.0 place h.0 h.1 bytes within (split ∙ h.4) h.2 in
    let more = values_read layout v.1 (after shape v.0 place) h.1 bytes (omega (arith, on.1, to)) (ap (λ (i : ℕ). drop i bytes) to ∙ on.0) h.3 in
    rw (field, more) refl

-- a field stands at a place
record FieldAt (shape : Shape) (v : Value shape) (place : ℕ) (bytes : List ℕ) : Type 0 where
  here : List ℕ
  rest : List ℕ
  stands : StandsIn shape v here
  split : drop place bytes ≡ here ++ rest

abbrev Found : (shape : Shape) → ℕ → List ℕ → Result (Value shape) UpdateFault → Type 0
Found shape place bytes r = IfOk r (λ v. FieldAt shape v place bytes)

-- a byte that is there
byte_split : (place : ℕ) (bytes : List ℕ) → place < length bytes → drop place bytes ≡ (slice_index bytes place ∷ []) ++ drop (suc place) bytes
byte_split place bytes h = drop-cons bytes place 0 h

part_found : (place : ℕ) (bytes : List ℕ) (o : Option TablePart) → place < length bytes → part_of (slice_index bytes place) ≡ o → Found Part place bytes (some_or_wrong o)
part_found place bytes None h e = tt
part_found place bytes (Some part) h e = record {
  here = slice_index bytes place ∷ [];
  rest = drop (suc place) bytes;
  stands = ap (λ (n : ℕ). n ∷ []) (number_from_part (slice_index bytes place) part e);
  split = byte_split place bytes h;
}

state_found : (place : ℕ) (bytes : List ℕ) (o : Option UpdateState) → place < length bytes → state_of (slice_index bytes place) ≡ o → Found State place bytes (some_or_wrong o)
state_found place bytes None h e = tt
state_found place bytes (Some state) h e = record {
  here = slice_index bytes place ∷ [];
  rest = drop (suc place) bytes;
  stands = ap (λ (n : ℕ). n ∷ []) (number_from_state (slice_index bytes place) state e);
  split = byte_split place bytes h;
}

text_found : (place : ℕ) (bytes : List ℕ) → place + 2 + slice_index bytes (place + 1) ≤ length bytes
    → FieldAt Text (version_text (slice_index bytes place) (take (slice_index bytes (place + 1)) (drop (place + 2) bytes))) place bytes
text_found place bytes long =
    let count = slice_index bytes (place + 1) in
    let text = take count (drop (place + 2) bytes) in
    let left = drop count (drop (place + 2) bytes) in
    let counted : length text ≡ count = length-take-le count (drop (place + 2) bytes) (omega (arith, length-drop (place + 2) bytes)) in
    let first : drop place bytes ≡ slice_index bytes place ∷ drop (place + 1) bytes = byte_split place bytes (omega arith) ∙ rw add-one refl in
    let step : suc (place + 1) ≡ place + 2 = omega arith in
    let second : drop (place + 1) bytes ≡ count ∷ drop (place + 2) bytes = byte_split (place + 1) bytes (omega arith) ∙ ap (λ (i : ℕ). count ∷ drop i bytes) step in
    record {
      here = slice_index bytes place ∷ length text ∷ text;
      rest = left;
      stands = refl;
      split = first ∙ ap (λ (l : List ℕ). slice_index bytes place ∷ l) (second ∙ ap (λ (n : ℕ). n ∷ drop (place + 2) bytes) (sym counted)
          ∙ ap (λ (l : List ℕ). length text ∷ l) (sym (take-append-drop count (drop (place + 2) bytes))));
    }

-- a field that is read stands at the place
field_found : (shape : Shape) (place : ℕ) (bytes : List ℕ) → place ≤ length bytes → Found shape place bytes (field_at shape place bytes)
unfolding byte_at number_at part_at state_at text_at
field_found Byte place bytes within =
    by_test (Found Byte place bytes) (nat_lt (length bytes) (place + 1)) (Err Length) (Ok (slice_index bytes place)) (λ _. tt)
    (λ t. record {
      here = slice_index bytes place ∷ [];
      rest = drop (suc place) bytes;
      stands = refl;
      split = byte_split place bytes (omega (arith, ltb-false (length bytes) (place + 1) t));
    })
field_found (Number count) place bytes within =
    by_test (Found (Number count) place bytes) (nat_lt (length bytes) (place + count)) (Err Length) (Ok (little_from place count bytes)) (λ _. tt)
    (λ t. let here = take count (drop place bytes) in
    let long : place + count ≤ length bytes = ltb-false (length bytes) (place + count) t in
    let counted : length here ≡ count = length-take-le count (drop place bytes) (omega (arith, length-drop place bytes)) in
    let cut : drop place bytes ≡ here ++ drop count (drop place bytes) = sym (take-append-drop count (drop place bytes)) in
    record { here = here; rest = drop count (drop place bytes); stands = (counted, number_here count place here (drop count (drop place bytes)) bytes counted cut); split = cut })
field_found Part place bytes within =
    by_test (Found Part place bytes) (nat_lt (length bytes) (place + 1)) (Err Length) (some_or_wrong (part_of (slice_index bytes place))) (λ _. tt)
    (λ t. part_found place bytes (part_of (slice_index bytes place)) (omega (arith, ltb-false (length bytes) (place + 1) t)) refl)
field_found State place bytes within =
    by_test (Found State place bytes) (nat_lt (length bytes) (place + 1)) (Err Length) (some_or_wrong (state_of (slice_index bytes place))) (λ _. tt)
    (λ t. state_found place bytes (state_of (slice_index bytes place)) (omega (arith, ltb-false (length bytes) (place + 1) t)) refl)
field_found Text place bytes within =
    by_test (Found Text place bytes) (nat_lt (length bytes) (place + 2)) (Err Length) _ (λ _. tt)
    (λ _. by_test (Found Text place bytes) (nat_lt (length bytes) (place + 2 + slice_index bytes (place + 1))) (Err Length) _ (λ _. tt)
    (λ t. text_found place bytes (ltb-false (length bytes) (place + 2 + slice_index bytes (place + 1)) t)))

-- a field and what follows it
pair_found : (shape : Shape) (layout : Layout) (v : Value shape) (place : ℕ) (bytes rest here : List ℕ) (r : Result (Values layout) UpdateFault)
    → StandsIn shape v here → drop place bytes ≡ here ++ rest → IfOk r (λ vs. StandIn layout vs rest)
    → IfOk (map_ok {B = Values (Then shape layout)} (λ vs. (v, vs)) r) (λ vs. StandIn (Then shape layout) vs (drop place bytes))
pair_found shape layout v place bytes rest here (Err fault) stands split more = tt
pair_found shape layout v place bytes rest here (Ok vs) stands split more = (here, rest, stands, more, split)

next_found : (shape : Shape) (layout : Layout) (place : ℕ) (bytes : List ℕ) → place ≤ length bytes
    → ((v : Value shape) → after shape v place ≤ length bytes → IfOk (values_at layout (after shape v place) bytes) (λ vs. StandIn layout vs (drop (after shape v place) bytes)))
    → (r : Result (Value shape) UpdateFault) → Found shape place bytes r
    → IfOk (and_then {B = Values (Then shape layout)} r (λ v. map_ok (λ vs. (v, vs)) (values_at layout (after shape v place) bytes))) (λ vs. StandIn (Then shape layout) vs (drop place bytes))
next_found shape layout place bytes within more (Err fault) h = tt
next_found shape layout place bytes within more (Ok v) h =
    let on = split_here place h.here h.rest bytes within h.split in
    let to = width shape v h.here place h.stands in
    let left : drop (after shape v place) bytes ≡ h.rest = ap (λ (i : ℕ). drop i bytes) to ∙ on.0 in
    let found = more v (omega (arith, on.1, to)) in
    pair_found shape layout v place bytes h.rest h.here (values_at layout (after shape v place) bytes) h.stands h.split
    (subst (λ (l : List ℕ). IfOk (values_at layout (after shape v place) bytes) (λ vs. StandIn layout vs l)) left found)

-- what is read stands from the place on
pub values_found : (layout : Layout) (place : ℕ) (bytes : List ℕ) → place ≤ length bytes
    → IfOk (values_at layout place bytes) (λ v. StandIn layout v (drop place bytes))
unfolding end_at rest_at
values_found End place bytes within =
    by_test (λ (r : Result (Unit {0}) UpdateFault). IfOk r (λ v. StandIn End v (drop place bytes))) (length bytes == place) (Ok tt) (Err Length)
    (λ t. drop_of_length-le bytes (omega (arith, eqb-true (length bytes) place t))) (λ _. tt)
values_found (Rest most) place bytes within =
    by_test (λ (r : Result (List ℕ) UpdateFault). IfOk r (λ v. StandIn (Rest most) v (drop place bytes))) (nat_lt most (length bytes - place)) (Err Length) (Ok (drop place bytes)) (λ _. tt)
    (λ t. (refl, omega (arith, ltb-false most (length bytes - place) t, length-drop place bytes)))
values_found Identifiers place bytes within = identifiers_found (drop place bytes)
values_found Parameters place bytes within = parameters_found (drop place bytes)
values_found (Then shape layout) place bytes within =
    next_found shape layout place bytes within (λ v on. values_found layout (after shape v place) bytes on) (field_at shape place bytes) (field_found shape place bytes within)

-- a field stands in the bytes that it is written as
field_written : (shape : Shape) (v : Value shape) → InRange shape v → StandsIn shape v (field_bytes shape v)
field_written Byte v h = refl
field_written (Number count) v h = stands count v h
field_written Part v h = refl
field_written State v h = refl
field_written Text v h = refl

-- values stand in the data that they are written as
pub values_written : (layout : Layout) (v : Values layout) → AllInRange layout v → StandIn layout v (bytes_of layout v)
values_written End v h = refl
values_written (Rest most) v h = (refl, h)
values_written Identifiers v h = identifiers_written v h
values_written Parameters v h = parameters_written v h
values_written (Then shape layout) v h = (field_bytes shape v.0, bytes_of layout v.1, field_written shape v.0 h.0, values_written layout v.1 h.1, refl)
