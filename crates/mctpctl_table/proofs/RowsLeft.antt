-- Records and fields, one after the other.
use Rattle.std.proofs.Common.{◌≡◌, ℕ, ◌+◌, ◌≤◌, ◌<◌, List, [], ◌∷◌, ◌++◌, length, drop, get_or, map, Option, None, Some, option_map, Vec, Global, ◌∙◌, sym, append_assoc, append-nil, refl}
use Rattle.std.proofs.lemmas.List.{drop_more}
use Rattle.std.proofs.Math.ListN.{drop_of_length-le}
use Rattle.pldm_pdr.specs.declared.possible_states.PossibleStates.{PossibleStates}
use Rattle.mctpctl_table.specs.NameRecords.{names_of}
use Rattle.mctpctl_table.specs.Names.{name_text}
use Rattle.mctpctl_table.specs.Replies.{state_reading}
use Rattle.mctpctl_table.specs.Rows.{field_row, field_rows, field_state, field_value, name_at, name_cell}
use Rattle.mctpctl_table.specs.States.{what_text}
use Rattle.mctpctl_table.specs.Tables.{Cells, cells}
use Rattle.mctpctl_table.specs.declared.reading.StateReading.{StateReading}
use Rattle.mctpctl_table.specs.declared.reply.Reply.{Reply}
use Rattle.mctpctl_table.specs.declared.identifier.Identifier.{Identifier}

abbrev pub bytes_of : List (Vec ℕ Global) → List (List ℕ)
bytes_of records = map (λ bytes. bytes.items) records

-- the record at a place has a name
pub name_found : (identifier : Identifier) (place : ℕ) (records : List (Vec ℕ Global)) (i : ℕ) (bytes : Vec ℕ Global) (slice : List ℕ) (found : Option (Vec ℕ Global)) (cell : Vec ℕ Global)
    → i < length records → bytes ≡ get_or records i bytes → slice ≡ bytes.items → found ≡ Some cell
    → option_map (λ text. text.items) found ≡ option_map (name_text place) (names_of identifier slice)
    → cell.items ≡ name_cell identifier place (bytes_of (drop i records))
unfolding name_cell
name_found identifier place records i bytes slice found cell lt bytes_is slice_is found_is told =
    let left : drop i records ≡ get_or records i bytes ∷ drop (i + 1) records = drop_more records i bytes lt in
    let named : option_map (name_text place) (names_of identifier bytes.items) ≡ Some cell.items =
    rw (sym slice_is) (sym told ∙ rw found_is refl) in
    rw (left, sym bytes_is, named) refl

-- it has none
pub name_not_found : (identifier : Identifier) (place : ℕ) (records : List (Vec ℕ Global)) (i : ℕ) (bytes : Vec ℕ Global) (slice : List ℕ) (found : Option (Vec ℕ Global))
    → i < length records → bytes ≡ get_or records i bytes → slice ≡ bytes.items → found ≡ None
    → option_map (λ text. text.items) found ≡ option_map (name_text place) (names_of identifier slice)
    → name_cell identifier place (bytes_of (drop (i + 1) records)) ≡ name_cell identifier place (bytes_of (drop i records))
unfolding name_cell
name_not_found identifier place records i bytes slice found lt bytes_is slice_is found_is told =
    let left : drop i records ≡ get_or records i bytes ∷ drop (i + 1) records = drop_more records i bytes lt in
    let unnamed : option_map (name_text place) (names_of identifier bytes.items) ≡ None =
    rw (sym slice_is) (sym told ∙ rw found_is refl) in
    rw (left, sym bytes_is, unnamed) refl

-- no record is left
pub no_name : (identifier : Identifier) (place : ℕ) (records : List (Vec ℕ Global)) (i : ℕ)
    → length records ≤ i → 45 ∷ [] ≡ name_cell identifier place (bytes_of (drop i records))
unfolding name_cell
no_name identifier place records i le = rw (drop_of_length-le records le) refl

-- one more field has its row
pub more_rows : (identifier : Identifier) (count place : ℕ) (sets : List PossibleStates) (states : PossibleStates) (names : List (List ℕ)) (reply : Reply) (reading : Option StateReading) (row : Cells) (old new whole : List Cells)
    → place < length sets → states ≡ get_or sets place states → reading ≡ state_reading count place reply
    → row ≡ cells (what_text identifier) (name_at names place) (field_value states reading) (field_state identifier reply reading)
    → new ≡ old ++ row ∷ []
    → old ++ field_rows identifier count place (drop place sets) names reply ≡ whole
    → new ++ field_rows identifier count (place + 1) (drop (place + 1) sets) names reply ≡ whole
unfolding field_rows field_row
more_rows identifier count place sets states names reply reading row old new whole lt states_is reading_is row_is new_is before =
    let left : drop place sets ≡ get_or sets place states ∷ drop (place + 1) sets = drop_more sets place states lt in
    rw (new_is, row_is, reading_is)
    (append_assoc old _ (field_rows identifier count (place + 1) (drop (place + 1) sets) names reply) ∙ (rw (left, sym states_is) at before))

-- no field is left
pub all_rows : (identifier : Identifier) (count place : ℕ) (sets : List PossibleStates) (names : List (List ℕ)) (reply : Reply) (rows whole : List Cells)
    → length sets ≤ place → rows ++ field_rows identifier count place (drop place sets) names reply ≡ whole → rows ≡ whole
unfolding field_rows
all_rows identifier count place sets names reply rows whole le before =
    sym (append-nil rows) ∙ (rw (drop_of_length-le sets le) at before)
