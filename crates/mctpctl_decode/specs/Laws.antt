-- A law of names over the definitions alone.
use Rattle.std.specs.Prelude.{◌≡◌, List}
use Rattle.mctpctl_decode.specs.NameTexts.{all_names_of, names_of}
use Rattle.pldm_pdr.specs.Names.{AreAllNames, AreNames, Name, all_names_bytes, names_bytes}

-- the names that are read from the text of a record are those that it spells

abbrev pub NamesAreRead : Type 0
NamesAreRead = (names : List Name) → AreNames names → names_of (names_bytes names) ≡ names

abbrev pub AllNamesAreRead : Type 0
AllNamesAreRead = (sets : List (List Name)) → AreAllNames sets → all_names_of (all_names_bytes sets) ≡ sets
