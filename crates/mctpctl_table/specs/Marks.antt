-- The table as text, each line behind a mark that says whether its row changed.
use Rattle.std.specs.Prelude.{ℕ, Bool, ◌&&◌, bytes_eq, codes, List, ◌++◌, slice_get, Option, None, Some, if◌then◌else◌}
use Rattle.std.specs.List.{enumerate_from, flat_map}
use Rattle.mctpctl_table.specs.Tables.{Cells, line_among}

-- the same value and the same state
abbrev pub unchanged : Cells → Cells → Bool
unchanged row before = bytes_eq row.value before.value && bytes_eq row.state before.state

-- what stands in front of a row's line, where this row stood at its place before
abbrev pub mark : Cells → Option Cells → List ℕ
mark row None = codes "* "
mark row (Some before) = if unchanged row before then codes "  " else codes "* "

-- the line of the row at a place, behind its mark
abbrev pub marked_line : List Cells → List Cells → ℕ → Cells → List ℕ
marked_line rows before place row = mark row (slice_get before place) ++ line_among rows row

abbrev pub marked_text : List Cells → List Cells → List ℕ
marked_text rows before = flat_map (λ p. marked_line rows before p.0 p.1) (enumerate_from 0 rows)
