-- What a device gives for what is pending, and what of it is returned.
use Rattle.std.specs.Prelude.{◌≡◌, ℕ, Bool, List, Option, Some, None}
use Rattle.pldm_wire.specs.HandingOn.{hands_on}
use Rattle.pldm_wire.specs.declared.restart_policy.RestartPolicy.{RestartPolicy}
use Rattle.pldm_wire.specs.declared.restart_policy.RestartPolicy.TheVariants.{All, Sets}
use Rattle.pldm_wire.specs.declared.command.Command.{Command}
use Rattle.pldm_wire.specs.declared.pass_through.PassThrough.{PassThrough}
use Rattle.pldm_responder.specs.Asked.{Given, Responded, gives}
use Rattle.pldm_responder.specs.Performing.{changes, reply as reply_of}
use Rattle.pldm_endpoint.specs.declared.pending_commands.PendingCommand.{PendingCommand}

-- what is refused in the busy time, where these requests are handed on as bytes
abbrev pub busy_with : PassThrough → RestartPolicy → RestartPolicy
busy_with handed All = All
busy_with handed (Sets other) = Sets handed

-- the command that is pending, where one is
abbrev pub pending_command : Option PendingCommand → Option Command
pending_command None = None
pending_command (Some a) = a.command

-- a response with this completion code and data
abbrev pub response_of : ℕ → List ℕ → Given
response_of code bytes = Responded (record { code = code; rest = bytes })

-- `reply` is the message that answers what is pending where the device gave this; it changed something where `changed`
abbrev pub IsReplyOf : PassThrough → Given → Option PendingCommand → List ℕ → Bool → Type 0
IsReplyOf handed given None reply changed = ⊥
IsReplyOf handed given (Some a) reply changed =
    (reply ≡ reply_of (gives (hands_on handed) given) tt a.request)
    × (changed ≡ changes (gives (hands_on handed) given) tt a.request)
