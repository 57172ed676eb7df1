-- The table as text: each column but the last is as wide as its longest cell, with two spaces between.
use Rattle.std.specs.Prelude.{ℕ, ◌-◌, ◌/◌, ◌==◌, max, not, Bool, List, [], ◌∷◌, ◌++◌, length, filter, replicate}
use Rattle.std.specs.List.{flat_map}
use Rattle.mctpctl_table.specs.declared.row.Column.{Column}
use Rattle.mctpctl_table.specs.declared.row.Column.TheVariants.{What, Name, Value}

-- what it is, its name, its value with its unit, and its state
pub record Cells : Type 0 where
  pub what : List ℕ
  pub name : List ℕ
  pub value : List ℕ
  pub state : List ℕ

abbrev pub cells : List ℕ → List ℕ → List ℕ → List ℕ → Cells
cells what name value state = record { what = what; name = name; value = value; state = state }

-- the cell in a column that is as wide as its longest one
abbrev pub cell : Column → Cells → List ℕ
cell What row = row.what
cell Name row = row.name
cell Value row = row.value

-- a byte that begins a character of UTF-8: those that go on with one are from 128 to 191
abbrev pub begins_character : ℕ → Bool
begins_character byte = not (byte / 64 == 2)

abbrev pub characters : List ℕ → ℕ
characters text = length (filter begins_character text)

-- the characters of the longest cell of a column
abbrev pub width : Column → List Cells → ℕ
width column [] = 0
width column (row ∷ rows) = max (characters (cell column row)) (width column rows)

-- a cell, and spaces up to the next column
abbrev pub padded : ℕ → List ℕ → List ℕ
padded width text = text ++ replicate (width - characters text) 32 ++ 32 ∷ 32 ∷ []

-- a row in columns of these widths
unfoldable pub line : ℕ → ℕ → ℕ → Cells → List ℕ
line what name value row =
    padded what row.what ++ padded name row.name ++ padded value row.value ++ row.state ++ 10 ∷ []

-- a row in columns that are as wide as the longest cells of these rows
abbrev pub line_among : List Cells → Cells → List ℕ
line_among rows = line (width What rows) (width Name rows) (width Value rows)

abbrev pub table_text : List Cells → List ℕ
table_text rows = flat_map (line_among rows) rows
