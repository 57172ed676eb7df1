-- Which commands the platform is asked to perform: those of the fresh requests, read by looking back over the events.
use Rattle.std.specs.Prelude.{◌≡◌, ℕ, ◌+◌, ◌≤◌, Bool, true, false, ◌&&◌, ◌||◌, ◌⊎◌, List, [], ◌∷◌, ◌++◌, length, if◌then◌else◌}
use Rattle.pldm_wire.specs.Headers.{id_at}
use Rattle.pldm_wire.specs.Kinds.{TypeAndCommand}
use Rattle.pldm_wire.specs.Requests.{request_of}
use Rattle.pldm_wire.specs.declared.restart_policy.RestartPolicy.{RestartPolicy}
use Rattle.pldm_wire.specs.declared.restart_policy.RestartPolicy.TheVariants.{All, Sets}
use Rattle.pldm_wire.specs.declared.pass_through.PassThrough.{PassThrough}
use Rattle.pldm_wire.specs.declared.command.Command.{Command}
use Rattle.pldm_responder.specs.Arrivals.{Arrival, Drop, Part, Whole}
use Rattle.pldm_responder.specs.Calls.{Call, arrived, events}
use Rattle.pldm_responder.specs.Events.{Message, Event, Came, Set, Restarted, Changed, busy_until, is_fresh, is_of, sets_in}
use Rattle.pldm_responder.specs.ResponderStates.{ResponderState}
use Rattle.pldm_responder.specs.Laws.{IsLeftBy}
use Rattle.pldm_responder.specs.Performing.{Rules, commands_of, tasks_of}
use Rattle.pldm_responder.specs.Steps.{received_commands, received_tasks}
use Rattle.pldm_responder.specs.TheRule.{others_since}

-- `asks` says what the bytes of a request ask
module _ {S A : Type 0} (asks : List ℕ → List A) (busy : RestartPolicy) (window keep : ℕ) where
  -- what it is asked for an arrival after these events, if anything
  abbrev pub asked_by : List (Event S) → Arrival → List A
  asked_by events (Drop reason) = []
  asked_by events Part = []
  asked_by events (Whole m) = if is_fresh busy window keep events m then asks m.bytes else []

  -- all that it was asked, the newest first
  abbrev pub askings : List (Event S) → List A
  askings [] = []
  askings (Came m ∷ events) = asked_by events (Whole m) ++ askings events
  askings (Set id value ∷ events) = askings events
  askings (Restarted moment ∷ events) = askings events
  askings (Changed state ∷ events) = askings events

module _ {S : Type 0} (busy : RestartPolicy) (window keep : ℕ) where
  -- the command that it is asked for an arrival after these events, if any
  abbrev pub asked_for : List (Event S) → Arrival → List Command
  asked_for events a = asked_by commands_of busy window keep events a

  -- among the later events is a restart, or a fresh request of this source and this instance ID
  abbrev pub is_renewed : List (Event S) → List (Event S) → ℕ → ℕ → Bool
  is_renewed before [] source id = false
  is_renewed before (Restarted moment ∷ later) source id = true
  is_renewed before (Set _ _ ∷ later) source id = is_renewed before later source id
  is_renewed before (Changed _ ∷ later) source id = is_renewed before later source id
  is_renewed before (Came m ∷ later) source id =
      is_of m source id && is_fresh busy window keep (later ++ before) m || is_renewed before later source id

-- what bytes have the platform perform is what looking back over all calls says
abbrev pub CommandsLookBack : {S : Type 0} → Rules S → Type 0
CommandsLookBack {S} device =
    (own : ℕ) (busy : RestartPolicy) (window keep : ℕ) (start : S) (held : ResponderState S) (calls : List (Call S))
    (moment : ℕ) (bytes : List ℕ)
    → IsLeftBy device own busy window keep start held calls
    → received_commands held moment bytes
    ≡ asked_for busy window keep (events own calls) (arrived own calls moment bytes)

-- and so is what bytes ask of a device that these requests are handed on to as bytes
abbrev pub TasksLookBack : {S : Type 0} → Rules S → Type 0
TasksLookBack {S} device =
    (hands_on : TypeAndCommand → Bool) (own : ℕ) (busy : RestartPolicy) (window keep : ℕ) (start : S) (held : ResponderState S)
    (calls : List (Call S)) (moment : ℕ) (bytes : List ℕ)
    → IsLeftBy device own busy window keep start held calls
    → received_tasks held hands_on moment bytes
    ≡ asked_by (tasks_of hands_on) busy window keep (events own calls) (arrived own calls moment bytes)

-- between two fresh requests of one source, instance ID and bytes there is a keeping time, a restart, another fresh
-- request of that source and instance ID, or as many other instance IDs of that source as the window has
abbrev pub AskedApart : Type 0 → Type 0
AskedApart S =
    (busy : RestartPolicy) (window keep : ℕ) (before later : List (Event S)) (first again : Message)
    → is_fresh busy window keep before first ≡ true
    → is_fresh busy window keep (later ++ Came first ∷ before) again ≡ true
    → again.source ≡ first.source → again.bytes ≡ first.bytes
    → (first.moment + keep ≤ again.moment)
    ⊎ (is_renewed busy window keep (Came first ∷ before) later first.source (id_at first.bytes) ≡ true)
    ⊎ (window
    ≤ length (others_since busy window keep (later ++ Came first ∷ before) first.source (id_at first.bytes)))

-- the requests that are handed on as bytes, where the busy time distinguishes them
abbrev pub Covers : RestartPolicy → PassThrough → Type 0
Covers All handed = Unit {0}
Covers (Sets own) handed = own ≡ handed

-- a request that sets something, or is handed on as bytes, is performed, handed on or refused a keeping time after the
-- last restart, and not before
abbrev pub SetsAfterBusyTime : Type 0 → Type 0
SetsAfterBusyTime S =
    (handed : PassThrough) (busy : RestartPolicy) (window keep : ℕ) (events : List (Event S)) (m : Message)
    → Covers busy handed
    → sets_in handed (request_of m.bytes) ≡ true → is_fresh busy window keep events m ≡ true
    → busy_until keep events ≤ m.moment
