-- The commands that are pending, by the source and the instance ID of their requests.
use Rattle.std.specs.FinMap as map
use Rattle.std.specs.Prelude.{ℕ, ◌+◌, ◌*◌, ◌/◌, ◌%◌, ◌==◌, [], Option, Some, None, if◌then◌else◌, refl}
use Rattle.std.specs.Ordering.{nat_cmp, ordering_then}
use Rattle.std.specs.declared.cmp.Ordering.{Ordering}
use Rattle.std.specs.Coded.{Coded, code_by, coded×, coded_ℕ}
use Rattle.mctp_assembly.specs.NumberLists.{NumberList, map_in}
use Rattle.pldm_wire.specs.Headers.{id_at}
use Rattle.pldm_wire.specs.declared.command.Command.TheVariants.{GetTid}
use Rattle.pldm_responder.specs.Events.{Message}
use Rattle.pldm_endpoint.specs.declared.pending_commands.PendingCommand.{PendingCommand}
use Rattle.pldm_endpoint.specs.declared.pending_commands.RequestKey.{RequestKey}
use Rattle.pldm_endpoint.specs.declared.step.CommandHandle.{CommandHandle}

abbrev pub request_key : ℕ → ℕ → RequestKey
request_key source id = record { source = source; id = id }

-- whose request a message is
abbrev pub request_key_of : Message → RequestKey
request_key_of m = request_key m.source (id_at m.bytes)

-- by source, then by instance ID
abbrev pub request_key_cmp : RequestKey → RequestKey → Ordering
request_key_cmp a b = ordering_then (nat_cmp a.source b.source) (nat_cmp a.id b.id)

-- it is stored as its parts
abbrev pub coded_request_key : Coded RequestKey
coded_request_key =
    code_by (ℕ × ℕ) (coded× coded_ℕ coded_ℕ) (λ a. (a.source, a.id))
    (λ c. record { source = c.0; id = c.1 }) (λ _. refl)

-- at most one for each source and instance ID
abbrev pub PendingCommands : Type 0
PendingCommands = map.FinMap request_key_cmp PendingCommand

-- they are numbered by source, then by instance ID
abbrev pub number_of : RequestKey → ℕ
number_of key = 256 * key.source + key.id

-- that of a number
abbrev pub request_key_at : ℕ → RequestKey
request_key_at n = request_key (n / 256) (n % 256)

-- what stands past the end of a list
abbrev pub no_command : PendingCommand
no_command = record { tag = 0; moment = 0; number = 0; command = Some GetTid; request = [] }

-- what is pending for each, in a list by number
abbrev pub pending_in : NumberList PendingCommand → PendingCommands
pending_in list = map_in request_key_cmp request_key_at list

abbrev pub numbered : ℕ → Option PendingCommand → Option PendingCommand
numbered number None = None
numbered number (Some a) = if a.number == number then Some a else None

-- what is pending under this handle
abbrev pub pending_at : PendingCommands → CommandHandle → Option PendingCommand
pending_at pending handle = numbered handle.number (map.get pending (request_key handle.source handle.id))
