-- The names of the data sizes, as descriptions and schedules spell them.
use Rattle.std.specs.Prelude.{ℕ, codes, nat_eq, Bool, List, Option, Some, None, if◌then◌else◌}
use Rattle.std.specs.Cmp.Lexicographic.{pointwise}
use Rattle.pldm_wire.specs.declared.size.Size.{Size}
use Rattle.pldm_wire.specs.declared.size.Size.TheVariants.{Uint8, Sint8, Uint16, Sint16, Uint32, Sint32}

abbrev pub size_name : Size → List ℕ
size_name Uint8 = codes "uint8"
size_name Sint8 = codes "sint8"
size_name Uint16 = codes "uint16"
size_name Sint16 = codes "sint16"
size_name Uint32 = codes "uint32"
size_name Sint32 = codes "sint32"

abbrev pub same_text : List ℕ → List ℕ → Bool
same_text text other = pointwise nat_eq text other

-- the size of this name
abbrev pub size_named : List ℕ → Option Size
size_named name =
    if same_text name (codes "uint8") then Some Uint8
    else if same_text name (codes "sint8") then Some Sint8
    else if same_text name (codes "uint16") then Some Uint16
    else if same_text name (codes "sint16") then Some Sint16
    else if same_text name (codes "uint32") then Some Uint32
    else if same_text name (codes "sint32") then Some Sint32
    else None
