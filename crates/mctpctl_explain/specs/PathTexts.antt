-- The text of a path.
use Rattle.std.specs.Prelude.{ℕ, List, [], ◌++◌, codes, get_or, Option, Some, None}
use Rattle.std.specs.Borrow.{Bor}
use Rattle.std.specs.Fmt.{decimal}
use Rattle.pldm_device.specs.declared.path.Path.{Path}

-- a name, where there is one
abbrev pub name_bytes : Option (Bor (List ℕ)) → List ℕ
name_bytes None = []
name_bytes (Some name) = name.now

-- a number in brackets, where there is one
abbrev pub index_bytes : Option ℕ → List ℕ
index_bytes None = []
index_bytes (Some index) = codes "[" ++ (decimal index ++ codes "]")

-- a key, where there is one, behind a point where it is in a list or a table
abbrev pub key_bytes : Option (Bor (List ℕ)) → Option (Bor (List ℕ)) → List ℕ
key_bytes list None = []
key_bytes None (Some key) = key.now
key_bytes (Some list) (Some key) = codes "." ++ key.now

-- the list or table, its entry, the key in it, and the items of arrays
abbrev pub path_bytes : Path → List ℕ
path_bytes path =
    name_bytes path.list ++ index_bytes path.entry ++ key_bytes path.list path.key
    ++ index_bytes (get_or path.items 0 None) ++ index_bytes (get_or path.items 1 None)
