-- The names of units in a description, and their numbers (DSP0248, "Sensor units").
use Rattle.std.specs.Prelude.{ℕ, codes, List, Option, Some, None, if◌then◌else◌}
use Rattle.pldm_wire.specs.SizeNames.{same_text}

-- the unit of this name, of the rarer ones of those that things are measured in most
abbrev pub rarer_unit_named : List ℕ → Option ℕ
rarer_unit_named name =
    if same_text name (codes "rpm") then Some 19
    else if same_text name (codes "hertz") then Some 20
    else if same_text name (codes "seconds") then Some 21
    else if same_text name (codes "bits") then Some 60
    else if same_text name (codes "bytes") then Some 61
    else if same_text name (codes "percent") then Some 65
    else if same_text name (codes "pascals") then Some 66
    else if same_text name (codes "counts") then Some 67
    else None

-- the unit of this name, of those that things are measured in most
abbrev pub unit_named : List ℕ → Option ℕ
unit_named name =
    if same_text name (codes "none") then Some 0
    else if same_text name (codes "degrees_c") then Some 2
    else if same_text name (codes "volts") then Some 5
    else if same_text name (codes "amps") then Some 6
    else if same_text name (codes "watts") then Some 7
    else if same_text name (codes "joules") then Some 8
    else if same_text name (codes "cfm") then Some 18
    else rarer_unit_named name
