-- The marked lines of the rows before a place, and the one at it.
use Rattle.std.proofs.Common.{◌≡◌, ℕ, ◌+◌, ◌≤◌, ◌<◌, List, [], ◌∷◌, ◌++◌, length, take, get_or, flat_map, slice_get, Option, None, Some, option_map, IfSome, MatchOption, Bor, arith, rules, ◌∙◌, ap, sym, append_assoc, refl}
use Rattle.std.proofs.lemmas.List.{flat_map_more, take_more}
use Rattle.std.proofs.lemmas.Option.{slice_get_past, slice_get_read}
use Rattle.std.specs.List.{HoldsAt, enumerate_from}
use Rattle.mctpctl_table.specs.Marks.{mark, marked_line}
use Rattle.mctpctl_table.specs.Tables.{Cells, line, line_among, width}
use Rattle.mctpctl_table.specs.declared.row.Column.TheVariants.{What, Name, Value}

-- the row that stood at a place
pub stood_there : (before : List Cells) (place : ℕ) (found : Option (Bor Cells))
    → IfSome found (λ x. x.now ≡ get_or before place x.now)
    → MatchOption found (length before ≤ place) (λ x. (place < length before) × HoldsAt (λ y. x.now ≡ y) before place)
    → option_map (λ x. x.now) found ≡ slice_get before place
stood_there before place None is there = sym (slice_get_past before place there)
stood_there before place (Some x) is there = sym (slice_get_read before (length before) place x.now refl there.0 is)

enumerate_more : (place : ℕ) (rows : List Cells) (row : Cells)
    → enumerate_from place (rows ++ row ∷ []) ≡ enumerate_from place rows ++ (place + length rows, row) ∷ []
enumerate_more place [] row = ap (λ n. (n, row) ∷ []) (omega arith)
enumerate_more place (first ∷ rows) row =
    let n : place + 1 + length rows ≡ place + length (first ∷ rows) = omega arith in
    ap (λ l. (place, first) ∷ l) (enumerate_more (place + 1) rows row ∙ ap (λ k. enumerate_from (place + 1) rows ++ (k, row) ∷ []) n)

one_more : (text : ℕ → Cells → List ℕ) (rows : List Cells) (place : ℕ) (row : Cells) (old so_far : List ℕ)
    → place < length rows → row ≡ get_or rows place row
    → so_far ≡ old ++ flat_map (λ p. text p.0 p.1) (enumerate_from 0 (take place rows))
    → so_far ++ text place row ≡ old ++ flat_map (λ p. text p.0 p.1) (enumerate_from 0 (take (place + 1) rows))
one_more text rows place row old so_far lt row_is so_far_is =
    let long : length (take place rows) ≡ place = search rules in
    let more : take (place + 1) rows ≡ take place rows ++ row ∷ [] =
    take_more rows place row lt ∙ ap (λ r. take place rows ++ r ∷ []) (sym row_is) in
    let places : enumerate_from 0 (take (place + 1) rows) ≡ enumerate_from 0 (take place rows) ++ (place, row) ∷ [] =
    rw more (enumerate_more 0 (take place rows) row ∙ ap (λ n. enumerate_from 0 (take place rows) ++ (n, row) ∷ []) (omega (arith, long))) in
    rw (places, so_far_is) (flat_map_more (λ p. text p.0 p.1) old (enumerate_from 0 (take place rows)) (place, row))

pub marked_more : (rows before : List Cells) (place : ℕ) (row : Cells) (found : Option Cells) (what name value : ℕ) (old so_far marked lined : List ℕ)
    → place < length rows → row ≡ get_or rows place row → found ≡ slice_get before place
    → what ≡ width What rows → name ≡ width Name rows → value ≡ width Value rows
    → marked ≡ so_far ++ mark row found → lined ≡ marked ++ line what name value row
    → so_far ≡ old ++ flat_map (λ p. marked_line rows before p.0 p.1) (enumerate_from 0 (take place rows))
    → lined ≡ old ++ flat_map (λ p. marked_line rows before p.0 p.1) (enumerate_from 0 (take (place + 1) rows))
marked_more rows before place row found what name value old so_far marked lined lt row_is found_is what_is name_is value_is marked_is lined_is so_far_is =
    rw (lined_is, marked_is, found_is, what_is, name_is, value_is)
    (append_assoc so_far (mark row (slice_get before place)) (line_among rows row)
    ∙ one_more (marked_line rows before) rows place row old so_far lt row_is so_far_is)
