-- Why a packet is refused, and what a device gives.
use Rattle.std.specs.FinMap as map
use Rattle.std.specs.Prelude.{◌≡◌, ◌<◌, ℕ, Bool, false, true, ◌&&◌, ◌||◌, ◌==◌, nat_le, bytes_eq, List, [], ◌∷◌, Option, Some, None, IsSome, length, if◌then◌else◌}
use Rattle.pldm_wire.specs.HandingOn.{hands_on}
use Rattle.pldm_wire.specs.declared.limits.TheConstants.{MAX_RESPONSE_DATA}
use Rattle.pldm_responder.specs.Asked.{Answered, Given, Responded}
use Rattle.pldm_responder.specs.Events.{Message}
use Rattle.pldm_responder.specs.Looking.{is_past_open}
use Rattle.pldm_responder.specs.Performing.{Task, tasks_of}
use Rattle.pldm_responder.specs.Reserving.{is_past_sources}
use Rattle.pldm_responder.specs.Steps.{performs}
use Rattle.pldm_endpoint.specs.RequestKeys.{request_key_of}
use Rattle.pldm_endpoint.specs.TwoSteps.{EndpointView, IsHandedOn, IsItsAnswer, held_in, request_in}
use Rattle.pldm_endpoint.specs.declared.pending_commands.PendingCommand.{PendingCommand}
use Rattle.pldm_endpoint.specs.declared.step.AnswerRefusal.{AnswerRefusal}
use Rattle.pldm_endpoint.specs.declared.step.AnswerRefusal.TheVariants.{NotPending, OtherCommand, TooLong}
use Rattle.pldm_endpoint.specs.declared.step.ReceiveRefusal.{ReceiveRefusal}
use Rattle.pldm_endpoint.specs.declared.step.ReceiveRefusal.TheVariants.{Performing, BeingPerformed, Full, Sources, OpenMessages, Memory}

-- as much is pending as may be; or as much was asked as can be counted
abbrev pub is_full : EndpointView → Bool
is_full e = nat_le e.max_pending (map.len e.pending) || e.count == 18446744073709551615

abbrev pub asks_some : List Task → Bool
asks_some [] = false
asks_some (task ∷ tasks) = true

-- a request that is to be performed, handed on or refused now: what it asks is one too many, or its source
abbrev pub refused_fresh : EndpointView → Message → Option ReceiveRefusal
refused_fresh e m =
    if is_full e && asks_some (tasks_of (hands_on e.handed_on) m.bytes) then Some Full
    else (if is_past_sources e.end.rows e.end.bounds.sources m.source then Some Sources else None)

-- a request for whose source and instance ID this is pending, or nothing
abbrev pub refused_while : EndpointView → Message → Option PendingCommand → Option ReceiveRefusal
refused_while e m (Some a) = if bytes_eq a.request m.bytes then Some BeingPerformed else Some Performing
refused_while e m None = if performs (held_in e) m then refused_fresh e m else None

abbrev pub refused_request : EndpointView → Option Message → Option ReceiveRefusal
refused_request e None = None
refused_request e (Some m) = refused_while e m (map.get e.pending (request_key_of m))

-- why a packet is refused, whatever memory there is: it begins one open message too many; or the request that it
-- completes is pending, or another of its source and instance ID; or it is one too many
abbrev pub refused_by : EndpointView → ℕ → List ℕ → Option ReceiveRefusal
refused_by e moment bytes =
    if is_past_open e.end bytes then Some OpenMessages else refused_request e (request_in (held_in e) moment bytes)

abbrev pub IsOfMemory : ReceiveRefusal → Type 0
IsOfMemory Performing = ⊥
IsOfMemory BeingPerformed = ⊥
IsOfMemory Full = ⊥
IsOfMemory Sources = ⊥
IsOfMemory OpenMessages = ⊥
IsOfMemory (Memory memory) = Unit {0}

-- ---- what the device gives

-- it is a response with more data than there may be
abbrev pub IsTooLong : Given → Type 0
IsTooLong (Answered given) = ⊥
IsTooLong (Responded given) = MAX_RESPONSE_DATA < length given.rest

-- why it is not taken for what is pending under its handle: nothing is, or something else, or it is too long
abbrev pub IsWhyNotTaken : Option PendingCommand → Given → AnswerRefusal → Type 0
IsWhyNotTaken pending given NotPending = pending ≡ None
IsWhyNotTaken pending given OtherCommand = IsSome pending × (IsItsAnswer pending given → ⊥)
IsWhyNotTaken pending given TooLong = IsHandedOn pending × IsTooLong given
