-- The rows as comma-separated values, quoted as RFC 4180 says in its section 2.
use Rattle.std.specs.Prelude.{ℕ, ◌==◌, List, [], ◌∷◌, ◌++◌, codes, if◌then◌else◌}
use Rattle.std.specs.Fmt.{decimal}
use Rattle.std.specs.List.{flat_map}
use Rattle.mctpctl_table.specs.Tables.{Cells}

-- a quote stands twice
abbrev pub escaped : ℕ → List ℕ
escaped byte = if byte == 34 then 34 ∷ 34 ∷ [] else byte ∷ []

-- a text between quotes
abbrev pub quoted : List ℕ → List ℕ
quoted text = 34 ∷ flat_map escaped text ++ 34 ∷ []

-- the moment, what the row is of, its name and its value
unfoldable pub log_line : ℕ → Cells → List ℕ
log_line moment row =
    decimal moment ++ codes "," ++ row.what ++ codes "," ++ quoted row.name ++ codes "," ++ quoted row.value ++ 10 ∷ []

abbrev pub log_text : ℕ → List Cells → List ℕ
log_text moment rows = flat_map (log_line moment) rows
