-- A name in a description, and the text of it in records of auxiliary names (DSP0248, "Sensor auxiliary names PDR").
use Rattle.std.specs.Prelude.{ℕ, ◌-◌, ◌≤◌, nat_le, Bool, ◌&&◌, codes, List, ◌++◌, length, replicate}
use Rattle.std.specs.List.{list_all}
use Rattle.pldm_pdr.specs.Fields.{byte}
use Rattle.pldm_pdr.specs.Names.{name_bytes}
use Rattle.pldm_device.specs.declared.limits.TheConstants.{MAX_NAME}

-- a character of ASCII that is printed
abbrev pub is_printable : ℕ → Bool
is_printable character = nat_le 32 character && nat_le character 126

-- some of them, and not too many
abbrev pub is_name : List ℕ → Bool
is_name text = nat_le 1 (length text) && nat_le (length text) MAX_NAME && list_all is_printable text

-- not too many characters
abbrev pub IsShort : List ℕ → Type 0
IsShort text = length text ≤ MAX_NAME

-- the one name of a thing, in English
abbrev pub one_name : List ℕ → List ℕ
one_name text = byte 1 ++ name_bytes (record { tag = codes "en"; units = text })

-- the name of a thing of so many parts: it is that of the first, and the others have none
abbrev pub name_of_first : ℕ → List ℕ → List ℕ
name_of_first count text = byte count ++ one_name text ++ replicate (count - 1) 0
