-- What a responding end is given about its requesters.
use Rattle.std.specs.Prelude.{ℕ, ◌≤◌, Bool, true, false, ◌||◌, Result, Ok, Err}
use Rattle.pldm_wire.specs.Commands.{sets}
use Rattle.pldm_wire.specs.HandingOn.{hands_on}
use Rattle.pldm_wire.specs.Kinds.{TypeAndCommand}
use Rattle.pldm_wire.specs.declared.assigned.TheConstants.{INSTANCE_IDS}
use Rattle.pldm_wire.specs.declared.restart_policy.RestartPolicy.{RestartPolicy}
use Rattle.pldm_wire.specs.declared.restart_policy.RestartPolicy.TheVariants.{All, Sets}
use Rattle.pldm_wire.specs.declared.command.Command.{Command}

-- one instance ID of a source at least, and all of them at most
abbrev pub IsWindow : ℕ → Type 0
IsWindow ids = (1 ≤ ids) × (ids ≤ INSTANCE_IDS)

-- a command was read, and sets something in the terminus
abbrev pub reads_set : Result Command ℕ → Bool
reads_set (Ok command) = sets command
reads_set (Err code) = false

-- whether a request is refused in the busy time: its type and command, and what was read of them, or the code that
-- refuses it anyway
abbrev pub refuses : RestartPolicy → TypeAndCommand → Result Command ℕ → Bool
refuses All kind read = true
refuses (Sets handed) kind read = hands_on handed kind || reads_set read
