-- The calls of a requester behind a handle: what they report to C, and what the handle holds then.
use Rattle.std.specs.Prelude.{◌≡◌, ℕ, ◌<◌, ◌≤◌, ◌==◌, nat_le, nat_lt, ◌&&◌, Bool, true, false, MatchBool, List, length, take, slice_get}
use Rattle.std.specs.Prelude.{Option, Some, None, IsSome, option_map, option_and_then, Result, Ok, Err, ◌⊎◌, if◌then◌else◌}
use Rattle.mctp_packet.specs.Ids.{IsEid, IsKeep}
use Rattle.mctp_packet.specs.Reasons.{number_of}
use Rattle.mctp_packet.specs.declared.TheConstants.{MAX_MOMENT, MAX_MESSAGE_BYTES, MAX_PACKET_BYTES}
use Rattle.mctp_packet.specs.declared.reason.Reason.{Reason}
use Rattle.pldm_wire.specs.CommandReading.{command_of}
use Rattle.pldm_wire.specs.Kinds.{of_type}
use Rattle.pldm_wire.specs.Requests.{Request, request_of}
use Rattle.pldm_wire.specs.declared.assigned.TheConstants.{INSTANCE_IDS}
use Rattle.pldm_wire.specs.declared.command.Command.{Command}
use Rattle.pldm_wire.specs.declared.limits.TheConstants.{MAX_REQUEST_DATA}
use Rattle.pldm_requester.specs.Asks.{Ask, ask_for, ask_of}
use Rattle.pldm_requester.specs.Courses.{Progress, Waiting, Answered, GaveUp}
use Rattle.pldm_requester.specs.Deadlines.{IsDeadline}
use Rattle.pldm_requester.specs.Slots.{held_of}
use Rattle.pldm_requester.specs.Steps.{RequesterState, IsHeld, Memo, again_at, at_hand, given_up_at, got_at, opened_with, opening_answer, paced_at_first}
use Rattle.pldm_requester.specs.Steps.{received_held, ticked_held}
use Rattle.pldm_requester.specs.Pacing.{setting_fault}
use Rattle.pldm_requester.specs.declared.results.Got.{Got}
use Rattle.pldm_requester.specs.declared.results.Got.TheVariants as outcome
use Rattle.pldm_requester.specs.declared.results.Opened.{Opened}
use Rattle.pldm_requester.specs.declared.results.OpenFault.{OpenFault}
use Rattle.pldm_requester.specs.declared.results.OpenFault.TheVariants as cause
use Rattle.pldm_requester.specs.declared.timing.Timing.{Timing}
use Rattle.needleoat_forms.specs.Written.{IsWritten}
use Rattle.needleoat_c.specs.RequesterHandles.{Inside}
use Rattle.needleoat_c.specs.Settings.{pace_in}
use Rattle.needleoat_c.specs.declared.kinds.TheConstants.{RECEIVING_ANSWERED, RECEIVING_DROPPED, RECEIVING_PARTIAL}
use Rattle.needleoat_c.specs.declared.kinds.TheConstants.{RECEIVING_REFUSED, STATUS_ANSWERED, STATUS_GAVE_UP, STATUS_OPEN}
use Rattle.needleoat_c.specs.declared.kinds.TheConstants.{STATUS_UNKNOWN}
use Rattle.needleoat_c.specs.declared.refusals.TheConstants.{ALREADY_THERE, BAD_MOMENT, ID_IN_USE, NOTHING_THERE, NO_COMMAND, NO_MEMORY, OUT_OF_RANGE}
use Rattle.needleoat_c.specs.declared.refusals.TheConstants.{TAG_IN_USE}
use Rattle.needleoat_c.specs.declared.reports.DueReport.{DueReport}
use Rattle.needleoat_c.specs.declared.reports.OpeningReport.{OpeningReport}
use Rattle.needleoat_c.specs.declared.reports.PacketReport.{PacketReport}
use Rattle.needleoat_c.specs.declared.reports.StatusReport.{StatusReport}
use Rattle.needleoat_c.specs.declared.requester_handle.RequesterForC.{RequesterForC}
use Rattle.needleoat_c.specs.declared.settings.RequesterSettings.{RequesterSettings}

-- a handle says truly whether there is something behind it
abbrev pub SaysWhether : Bool → Option Inside → Type 0
SaysWhether true held = IsSome held
SaysWhether false held = held ≡ None

-- what C keeps: a handle of zeros keeps it, and so does each call
abbrev pub IsUpheld : RequesterForC → Type 0
IsUpheld requester = SaysWhether requester.is_live requester.handle.held

-- what the requester behind a handle holds
abbrev pub holding : Option Inside → Option RequesterState
holding held = option_map held_of held

-- what is behind the handle holds what this change makes of what was held before
abbrev pub HoldsAfter : (RequesterState → RequesterState) → Option Inside → Option Inside → Type 0
HoldsAfter change (Some old) (Some new) = IsHeld (held_of new) (change (held_of old))
HoldsAfter change None None = Unit {0}
HoldsAfter change old new = ⊥

abbrev pub unchanged : RequesterState → RequesterState
unchanged held = held

-- a moment that may come next
abbrev pub is_next : ℕ → RequesterState → Bool
is_next now held = nat_le now MAX_MOMENT && nat_le held.last now

-- why a call at a moment is refused, whatever it is: 0 where it is not
abbrev pub refusal_at : ℕ → Option RequesterState → ℕ
refusal_at now None = NOTHING_THERE
refusal_at now (Some held) = if is_next now held then 0 else BAD_MOMENT

-- ---- making ----

abbrev pub timing_of : RequesterSettings → Timing
timing_of s = record { keep = s.keep_ms; timeout = s.timeout_ms; tries = s.tries }

-- two endpoint IDs, a keeping time, a window of no more than all instance IDs, and a timing and a pace without a fault
abbrev pub IsSetup : RequesterSettings → Type 0
IsSetup s =
    IsEid s.own × IsEid s.device × IsKeep s.keep_ms × (s.window ≤ INSTANCE_IDS)
    × (setting_fault s.own s.device (timing_of s) (pace_in s) ≡ None)

-- 0, or why none is made: one is there; the settings are none; or no memory was left
pub record ReportsMaking (s : RequesterSettings) (is_live : Bool) (result : ℕ) : Type 0 where
  pub already : is_live ≡ true → result ≡ ALREADY_THERE
  pub out_of_range : is_live ≡ false → (IsSetup s → ⊥) → result ≡ OUT_OF_RANGE
  pub made : is_live ≡ false → IsSetup s → (result ≡ 0) ⊎ (result ≡ NO_MEMORY)

-- a new requester is behind the handle
abbrev pub IsNew : RequesterSettings → Option Inside → Type 0
IsNew s None = ⊥
IsNew s (Some new) = IsHeld (held_of new) (paced_at_first s.own s.device (timing_of s) (pace_in s))

-- ---- opening ----

-- the command that a message carries as a request

abbrev pub command_found : Result Command ℕ → Option Command
command_found (Ok command) = Some command
command_found (Err code) = None

abbrev pub command_read : Result Request Reason → Option Command
command_read (Ok q) = command_found (command_of q.kind q.rest)
command_read (Err reason) = None

abbrev pub command_in : List ℕ → Option Command
command_in message = command_read (request_of message)

-- what it asks so, or why it asks nothing

abbrev pub ask_or_none : Option Command → Result Ask ℕ
ask_or_none None = Err NO_COMMAND
ask_or_none (Some command) = Ok (ask_of command)

abbrev pub asked_in : List ℕ → Result Ask ℕ
asked_in message = ask_or_none (command_in message)

-- what a type and a command ask with data: a type has six bits, and a message has room for so much data
abbrev pub asked_with : ℕ → ℕ → List ℕ → Result Ask ℕ
asked_with pldm_type command bytes =
    if nat_lt pldm_type 64 && nat_le (length bytes) MAX_REQUEST_DATA then Ok (ask_for (of_type pldm_type command) bytes)
    else Err OUT_OF_RANGE

-- the request that is opened, where there is memory, or why none is

abbrev pub fault_number : OpenFault → ℕ
fault_number cause.TagInUse = TAG_IN_USE
fault_number cause.IdInUse = ID_IN_USE
fault_number (cause.Memory refused) = NO_MEMORY

abbrev pub opened_or_number : Result Opened OpenFault → Result Opened ℕ
opened_or_number (Ok opened) = Ok opened
opened_or_number (Err fault) = Err (fault_number fault)

abbrev pub opening_of : Result Ask ℕ → ℕ → RequesterState → Result Opened ℕ
opening_of (Err number) now held = Err number
opening_of (Ok ask) now held = opened_or_number (opening_answer held now)

abbrev pub opening_in : ℕ → Result Ask ℕ → RequesterState → Result Opened ℕ
opening_in now asked held = if is_next now held then opening_of asked now held else Err BAD_MOMENT

abbrev pub opening_at : ℕ → Result Ask ℕ → Option RequesterState → Result Opened ℕ
opening_at now asked None = Err NOTHING_THERE
opening_at now asked (Some held) = opening_in now asked held

-- the fields of an opened request
pub record ReportsOpened (opened : Opened) (r : OpeningReport) : Type 0 where
  pub refusal : r.refusal ≡ 0
  pub instance_id : r.instance_id ≡ opened.id
  pub tag : r.tag ≡ opened.tag
  pub number : r.number ≡ opened.number

-- the request, unless there was no memory; or why there is none
abbrev pub ReportsOpening : Result Opened ℕ → OpeningReport → Type 0
ReportsOpening (Ok opened) r = ReportsOpened opened r ⊎ (r.refusal ≡ NO_MEMORY)
ReportsOpening (Err number) r = r.refusal ≡ number

-- only the first requests want memory
abbrev pub MayNeedRoom : ℕ → Option RequesterState → Type 0
MayNeedRoom most None = ⊥
MayNeedRoom most (Some held) = held.count < most

abbrev pub with_opened : ℕ → Result Ask ℕ → RequesterState → RequesterState
with_opened now (Err number) held = held
with_opened now (Ok ask) held = opened_with held now ask

abbrev pub opened_by : ℕ → Result Ask ℕ → ℕ → RequesterState → RequesterState
opened_by now asked refusal held = if refusal == 0 then with_opened now asked held else held

-- ---- ticks ----

-- these numbers stand in front, and this is how many they are
abbrev pub AreInFront : List ℕ → ℕ → List ℕ → Type 0
AreInFront numbers count room = (count ≡ length numbers) × (take count room ≡ numbers)

-- the requests that are due stand in front
pub record AreDue (now : ℕ) (held : RequesterState) (due : DueReport) : Type 0 where
  pub again : AreInFront (again_at held now) due.again_count due.again
  pub given_up : AreInFront (given_up_at held now) due.given_up_count due.given_up

abbrev pub ReportsDue : ℕ → DueReport → Option RequesterState → Type 0
ReportsDue now due None = ⊥
ReportsDue now due (Some held) = AreDue now held due

abbrev pub ticked_by : ℕ → ℕ → RequesterState → RequesterState
ticked_by now refusal held = if refusal == 0 then ticked_held held now else held

-- whether there is a moment from which on a tick has something to do, and which: where there is none, or no requester,
-- what stood there stays
abbrev pub ReportsDeadline : Option RequesterState → Bool → ℕ → ℕ → Type 0
ReportsDeadline None found old new = (found ≡ false) × (new ≡ old)
ReportsDeadline (Some held) true old new = IsDeadline held (Some new)
ReportsDeadline (Some held) false old new = IsDeadline held None × (new ≡ old)

-- ---- packets that come ----

abbrev pub ReportsGot : Got → PacketReport → Type 0
ReportsGot (outcome.Dropped reason) r = (r.kind ≡ RECEIVING_DROPPED) × (r.reason ≡ number_of reason)
ReportsGot outcome.Partial r = (r.kind ≡ RECEIVING_PARTIAL) × (r.reason ≡ 0)
ReportsGot (outcome.Answered number) r = (r.kind ≡ RECEIVING_ANSWERED) × (r.reason ≡ 0) × (r.number ≡ number)

abbrev pub IsRefused : ℕ → PacketReport → Type 0
IsRefused number r = (r.kind ≡ RECEIVING_REFUSED) × (r.reason ≡ number)

-- what becomes of it; only a packet that begins a message of several may want memory
abbrev pub ReportsTaken : Got → PacketReport → Type 0
ReportsTaken got r = ReportsGot got r ⊎ (IsRefused NO_MEMORY r × (got ≡ outcome.Partial))

abbrev pub ReportsPacketIn : ℕ → List ℕ → PacketReport → RequesterState → Type 0
ReportsPacketIn now bytes r held =
    MatchBool (is_next now held) (ReportsTaken (got_at held bytes) r) (IsRefused BAD_MOMENT r)

abbrev pub ReportsPacket : ℕ → List ℕ → PacketReport → Option RequesterState → Type 0
ReportsPacket now bytes r None = IsRefused NOTHING_THERE r
ReportsPacket now bytes r (Some held) = ReportsPacketIn now bytes r held

abbrev pub received_by : ℕ → List ℕ → ℕ → RequesterState → RequesterState
received_by now bytes kind held = if kind == RECEIVING_REFUSED then held else received_held held now bytes

-- ---- what is remembered ----

-- bytes, where they fit
abbrev pub fitting : ℕ → List ℕ → Option (List ℕ)
fitting most bytes = if nat_le (length bytes) most then Some bytes else None

abbrev pub memo_of : ℕ → Option RequesterState → Option Memo
memo_of number held = option_and_then (λ (h : RequesterState). at_hand h number) held

-- a packet of a request that is remembered, counted from 0: a request of a command is one packet
abbrev pub packet_of : ℕ → ℕ → Option RequesterState → Option (List ℕ)
packet_of number place held =
    option_and_then (fitting MAX_PACKET_BYTES)
    (option_and_then (λ packets. slice_get packets place)
    (option_map (λ (memo : Memo). memo.packets) (memo_of number held)))

-- how a request stands, and its answer in front of the room
abbrev pub ReportsProgress : Option Progress → StatusReport → List ℕ → List ℕ → Type 0
ReportsProgress None r old new = (r.kind ≡ STATUS_UNKNOWN) × (r.length ≡ 0) × (new ≡ old)
ReportsProgress (Some Waiting) r old new = (r.kind ≡ STATUS_OPEN) × (r.length ≡ 0) × (new ≡ old)
ReportsProgress (Some (Answered message)) r old new =
    (r.kind ≡ STATUS_ANSWERED) × IsWritten (fitting MAX_MESSAGE_BYTES message) r.length old new
ReportsProgress (Some GaveUp) r old new = (r.kind ≡ STATUS_GAVE_UP) × (r.length ≡ 0) × (new ≡ old)

abbrev pub progress_of : ℕ → Option RequesterState → Option Progress
progress_of number held = option_map (λ (memo : Memo). memo.course.progress) (memo_of number held)
