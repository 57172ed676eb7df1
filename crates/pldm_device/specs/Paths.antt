-- The paths of values in a description.
use Rattle.std.specs.Prelude.{ℕ, List, [], ◌∷◌, Option, Some, None}
use Rattle.std.specs.Borrow.{Bor}
use Rattle.pldm_device.specs.declared.path.Path.{Path}

abbrev pub whole_path : Path
whole_path = record { list = None; entry = None; key = None; items = None ∷ None ∷ [] }

abbrev pub table_path : Bor (List ℕ) → Path
table_path name = record whole_path { list = Some name }

abbrev pub entry_path : Bor (List ℕ) → ℕ → Path
entry_path list entry = record whole_path { list = Some list; entry = Some entry }

-- a key of what is at the path
abbrev pub key_of : Bor (List ℕ) → Path → Path
key_of key path = record path { key = Some key }

-- an item of an array that is an item itself, or is none
abbrev pub items_with : ℕ → List (Option ℕ) → List (Option ℕ)
items_with item (None ∷ rest) = Some item ∷ None ∷ []
items_with item (first ∷ rest) = first ∷ Some item ∷ []
items_with item [] = []

abbrev pub item_of : ℕ → Path → Path
item_of item path = record path { items = items_with item path.items }
