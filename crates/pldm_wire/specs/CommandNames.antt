-- The names of the commands, as the standards spell them (DSP0240, DSP0248).
use Rattle.std.specs.Prelude.{ℕ, ◌==◌, List, [], ◌∷◌, Option, Some, None, if◌then◌else◌}
use Rattle.pldm_wire.specs.CommandTable.{Row, base_rows, platform_rows}
use Rattle.pldm_wire.specs.Kinds.{TypeAndCommand}
use Rattle.pldm_wire.specs.declared.assigned.TheConstants.{BASE, PLATFORM}

abbrev pub name_by : List Row → ℕ → Option (List ℕ)
name_by [] command = None
name_by (row ∷ rows) command = if command == row.kind.command then Some row.name else name_by rows command

-- the name of a command of this profile; any other has none here
unfoldable pub name_of_kind : TypeAndCommand → Option (List ℕ)
name_of_kind kind =
    if kind.pldm_type == BASE then name_by base_rows kind.command
    else if kind.pldm_type == PLATFORM then name_by platform_rows kind.command
    else None
