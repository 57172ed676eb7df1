-- What the laws of an endpoint say, of its parts one by one.
use Rattle.std.specs.FinMap as map
use Rattle.std.specs.Prelude.{map as list_map}
use Rattle.std.proofs.Common.{◌≡◌, ℕ, List, [], ◌∷◌, Option, Some, None}
use Rattle.mctp_assembly.specs.declared.key.Key.{Key}
use Rattle.pldm_wire.specs.HandingOn.{hands_on}
use Rattle.pldm_wire.specs.declared.restart_policy.RestartPolicy.{RestartPolicy}
use Rattle.pldm_wire.specs.declared.pass_through.PassThrough.{PassThrough}
use Rattle.pldm_responder.specs.Asked.{Given, gives, over}
use Rattle.pldm_responder.specs.Calls.{Call, Received, Restart, Ended, Assigned, outcome}
use Rattle.pldm_responder.specs.Events.{Message}
use Rattle.pldm_responder.specs.Laws.{IsLeftBy}
use Rattle.pldm_responder.specs.OpenOrder.{ended_held}
use Rattle.pldm_responder.specs.OutsideAnswers.{outcome_of_answer}
use Rattle.pldm_responder.specs.Performing.{Task}
use Rattle.pldm_responder.specs.ResponderStates.{ResponderState, IsHeld, held_at_first, id_in}
use Rattle.pldm_responder.specs.Steps.{assigned_held, received_outcome, restarted_held}
use Rattle.pldm_endpoint.specs.Histories.{AreUnderTheirIds, entry_once_given, in_turn}
use Rattle.pldm_endpoint.specs.RequestKeys.{PendingCommands, pending_at, request_key, request_key_of}
use Rattle.pldm_endpoint.specs.TwoSteps.{answered_held, asked_now, count_after, held_after, pending_after, request_in, unasked}
use Rattle.pldm_endpoint.specs.declared.pending_commands.PendingCommand.{PendingCommand}
use Rattle.pldm_endpoint.specs.declared.step.CommandHandle.{CommandHandle}

-- what is held, once the device has given all that is pending
abbrev pub to_be : PassThrough → (ℕ → Given) → PendingCommands → ResponderState (Unit {0}) → ResponderState (Unit {0})
to_be handed answers pending held = record held {
  kept = λ source.
      list_map (λ entry. entry_once_given handed answers (map.get pending (request_key source (id_in entry))) entry)
      (held.kept source);
}

-- what is held is what the calls leave, but for what the device is still to give
pub record IsLeftByParts (own : ℕ) (handed : PassThrough) (busy : RestartPolicy) (window keep : ℕ) (answers : ℕ → Given)
    (count : ℕ) (pending : PendingCommands) (held : ResponderState (Unit {0})) (calls : List (Call ℕ)) : Type 0 where
  pub ids : AreUnderTheirIds pending
  pub left : IsLeftBy (in_turn handed answers) own busy window keep 0 (over count (to_be handed answers pending held)) calls

-- nothing of this request's source and instance ID is pending
abbrev pub IsFree : PendingCommands → Option Message → Type 0
IsFree pending None = Unit {0}
IsFree pending (Some m) = map.get pending (request_key_of m) ≡ None

-- bytes that are not refused leave what the longer list leaves, whether they ask something or not
abbrev pub ReceivedByParts : Type 0
ReceivedByParts =
    (own : ℕ) (handed : PassThrough) (busy : RestartPolicy) (window keep : ℕ) (answers : ℕ → Given)
    (count : ℕ) (pending : PendingCommands) (held : ResponderState (Unit {0}))
    (calls : List (Call ℕ)) (moment : ℕ) (bytes : List ℕ)
    → IsLeftByParts own handed busy window keep answers count pending held calls → IsFree pending (request_in held moment bytes)
    → IsLeftByParts own handed busy window keep answers (count_after handed held moment bytes count)
    (pending_after handed held moment bytes pending count)
    (held_after handed held moment bytes) (Received moment bytes ∷ calls)

-- where they ask nothing, they return what looking back over all calls says
abbrev pub UnaskedLooksBack : Type 0
UnaskedLooksBack =
    (own : ℕ) (handed : PassThrough) (busy : RestartPolicy) (window keep : ℕ) (answers : ℕ → Given)
    (count : ℕ) (pending : PendingCommands) (held : ResponderState (Unit {0}))
    (calls : List (Call ℕ)) (moment : ℕ) (bytes : List ℕ)
    → IsLeftByParts own handed busy window keep answers count pending held calls → IsFree pending (request_in held moment bytes)
    → asked_now handed held moment bytes ≡ []
    → received_outcome (gives (hands_on handed) unasked) held moment bytes
    ≡ outcome (in_turn handed answers) own busy window keep 0 calls moment bytes

-- where they ask something, what is given for it is what looking back says that these bytes return
abbrev pub AskedLooksBack : Type 0
AskedLooksBack =
    (own : ℕ) (handed : PassThrough) (busy : RestartPolicy) (window keep : ℕ) (answers : ℕ → Given)
    (count : ℕ) (pending : PendingCommands) (held : ResponderState (Unit {0}))
    (calls : List (Call ℕ)) (moment : ℕ) (bytes : List ℕ) (m : Message) (task : Task)
    → IsLeftByParts own handed busy window keep answers count pending held calls → IsFree pending (request_in held moment bytes)
    → request_in held moment bytes ≡ Some m → asked_now handed held moment bytes ≡ task ∷ []
    → outcome_of_answer (hands_on handed) held.own m.source m.tag m.bytes (answers count)
    ≡ outcome (in_turn handed answers) own busy window keep 0 calls moment bytes

-- what the device gives leaves what the calls before leave: it changes no more than that it is there
abbrev pub AnsweredByParts : Type 0
AnsweredByParts =
    (own : ℕ) (handed : PassThrough) (busy : RestartPolicy) (window keep : ℕ) (answers : ℕ → Given)
    (count : ℕ) (pending : PendingCommands) (held : ResponderState (Unit {0}))
    (calls : List (Call ℕ)) (handle : CommandHandle) (a : PendingCommand)
    → IsLeftByParts own handed busy window keep answers count pending held calls → pending_at pending handle ≡ Some a
    → IsLeftByParts own handed busy window keep answers count (map.remove pending (request_key handle.source handle.id))
    (answered_held handed held handle (answers handle.number) (Some a)) calls

-- a restart: what is pending counts as performed, with answers that nobody got
abbrev pub RestartedByParts : Type 0
RestartedByParts =
    (own : ℕ) (handed : PassThrough) (busy : RestartPolicy) (window keep : ℕ) (answers : ℕ → Given)
    (count : ℕ) (pending : PendingCommands) (held : ResponderState (Unit {0}))
    (calls : List (Call ℕ)) (moment : ℕ)
    → IsLeftByParts own handed busy window keep answers count pending held calls
    → IsLeftByParts own handed busy window keep answers count map.empty (restarted_held held moment) (Restart moment ∷ calls)

-- another endpoint ID is assigned: what is pending counts as performed, as at a restart
abbrev pub AssignedByParts : Type 0
AssignedByParts =
    (own : ℕ) (handed : PassThrough) (busy : RestartPolicy) (window keep : ℕ) (answers : ℕ → Given)
    (count : ℕ) (pending : PendingCommands) (held : ResponderState (Unit {0}))
    (calls : List (Call ℕ)) (moment eid : ℕ)
    → IsLeftByParts own handed busy window keep answers count pending held calls
    → IsLeftByParts eid handed busy window keep answers count map.empty (assigned_held held moment eid)
    (Assigned moment own ∷ calls)

-- an open message that ends: to its sender it is a lost packet
abbrev pub EndedByParts : Type 0
EndedByParts =
    (own : ℕ) (handed : PassThrough) (busy : RestartPolicy) (window keep : ℕ) (answers : ℕ → Given)
    (count : ℕ) (pending : PendingCommands) (held : ResponderState (Unit {0}))
    (calls : List (Call ℕ)) (key : Key)
    → IsLeftByParts own handed busy window keep answers count pending held calls
    → IsLeftByParts own handed busy window keep answers count pending (ended_held (Some key) held) (Ended key ∷ calls)

-- a new endpoint
abbrev pub NewByParts : Type 0
NewByParts =
    (own : ℕ) (handed : PassThrough) (busy : RestartPolicy) (window keep : ℕ) (answers : ℕ → Given)
    → IsLeftByParts own handed busy window keep answers 0 map.empty (held_at_first own busy window keep tt) []

-- what holds the same is left by the same calls
abbrev pub SameByParts : Type 0
SameByParts =
    (own : ℕ) (handed : PassThrough) (busy : RestartPolicy) (window keep : ℕ) (answers : ℕ → Given)
    (count : ℕ) (pending : PendingCommands) (new held : ResponderState (Unit {0}))
    (calls : List (Call ℕ))
    → IsHeld new held → IsLeftByParts own handed busy window keep answers count pending held calls
    → IsLeftByParts own handed busy window keep answers count pending new calls
