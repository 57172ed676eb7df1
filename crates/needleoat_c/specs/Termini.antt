-- The calls of an end that answers and asks, behind a handle: what they report to C, and what is behind the handle then.
use Rattle.std.specs.Prelude.{◌≡◌, ℕ, ◌≤◌, ◌==◌, nat_le, ◌&&◌, Bool, true, false, MatchBool, List, Option, Some, None, IsSome}
use Rattle.std.specs.Prelude.{is_some, option_and_then, Result, Ok, Err, ◌⊎◌, if◌then◌else◌}
use Rattle.mctp_packet.specs.Ids.{IsEid, IsKeep}
use Rattle.mctp_packet.specs.declared.TheConstants.{MAX_MOMENT}
use Rattle.pldm_requester.specs.Asks.{Ask}
use Rattle.pldm_requester.specs.Slots.{RequesterView, held_of}
use Rattle.pldm_requester.specs.Steps.{RequesterState, got_at, opening_answer}
use Rattle.pldm_requester.specs.Pacing.{setting_fault}
use Rattle.pldm_requester.specs.declared.pace.Pace.{Pace}
use Rattle.pldm_wire.specs.declared.assigned.TheConstants.{INSTANCE_IDS}
use Rattle.needleoat_c.specs.Settings.{pace_of}
use Rattle.pldm_requester.specs.declared.results.Opened.{Opened}
use Rattle.pldm_requester.specs.declared.timing.Timing.{Timing}
use Rattle.pldm_responder.specs.Ends.{eid_or_null}
use Rattle.pldm_endpoint.specs.Refusing.{refused_by}
use Rattle.pldm_endpoint.specs.declared.pending_commands.PendingCommand.{PendingCommand}
use Rattle.pldm_terminus.specs.Askings.{AskingView, HasBegun, IsBegunAt, IsSameHalf, IsWhyNotOpened}
use Rattle.pldm_terminus.specs.Directions.{is_answer}
use Rattle.pldm_terminus.specs.Termini.{IsFollowed}
use Rattle.pldm_terminus.specs.declared.asking.AskFault.{AskFault}
use Rattle.pldm_terminus.specs.declared.asking.AskFault.TheVariants.{NoEid, Resting, Open}
use Rattle.needleoat_c.specs.Endpoints as answering
use Rattle.needleoat_c.specs.Requesters as asking
use Rattle.needleoat_c.specs.Settings.{first_eid}
use Rattle.needleoat_c.specs.Settings as settings
use Rattle.needleoat_c.specs.EndpointHandles as endpoint
use Rattle.needleoat_c.specs.TerminusHandles.{Inside}
use Rattle.needleoat_c.specs.declared.kinds.TheConstants.{HALF_ANSWERING, HALF_ASKING, STEP_REFUSED}
use Rattle.needleoat_c.specs.declared.refusals.TheConstants.{ALREADY_THERE, BAD_MOMENT, NOTHING_THERE, NO_EID}
use Rattle.needleoat_c.specs.declared.refusals.TheConstants.{NO_MEMORY, OUT_OF_RANGE, RESTING}
use Rattle.needleoat_c.specs.declared.reports.ComingReport.{ComingReport}
use Rattle.needleoat_c.specs.declared.reports.DueReport.{DueReport}
use Rattle.needleoat_c.specs.declared.reports.HandleFields.{HandleFields}
use Rattle.needleoat_c.specs.declared.reports.OpeningReport.{OpeningReport}
use Rattle.needleoat_c.specs.declared.reports.PacketReport.{PacketReport}
use Rattle.needleoat_c.specs.declared.reports.StepReport.{StepReport}
use Rattle.needleoat_c.specs.declared.settings.EndpointSettings.{EndpointSettings}
use Rattle.needleoat_c.specs.declared.settings.PeerSettings.{PeerSettings}
use Rattle.needleoat_c.specs.declared.terminus_handle.TerminusForC.{TerminusForC}

-- a handle says truly whether there is something behind it
abbrev pub SaysWhether : Bool → Option Inside → Type 0
SaysWhether true held = IsSome held
SaysWhether false held = held ≡ None

-- what C keeps: a handle of zeros keeps it, and so does each call
abbrev pub IsUpheld : TerminusForC → Type 0
IsUpheld terminus = SaysWhether terminus.is_live terminus.handle.held

-- what is behind the handle is what this change makes of what was
abbrev pub IsLeft : (Inside → Inside → Type 0) → Option Inside → Option Inside → Type 0
IsLeft change (Some old) (Some new) = change old new
IsLeft change None None = Unit {0}
IsLeft change old new = ⊥

-- the requester of what is behind the handle, where there is one
abbrev pub requester_of : Option Inside → Option RequesterView
requester_of held = option_and_then (λ (inside : Inside). inside.asking.requester) held

-- its requester holds what this change makes of what it held before, and nothing else has changed
pub record IsAskingLeft (change : RequesterState → RequesterState) (old new : Inside) : Type 0 where
  pub requester : asking.HoldsAfter change old.asking.requester new.asking.requester
  pub half : IsSameHalf old.asking new.asking
  pub answering : new.answering ≡ old.answering

-- a moment that may come next: it is not before the last one of either half

abbrev pub came_before : ℕ → Option RequesterView → Bool
came_before now None = true
came_before now (Some r) = nat_le (held_of r).last now

abbrev pub is_next : ℕ → Inside → Bool
is_next now inside = answering.is_next now inside.answering && came_before now inside.asking.requester

-- why a call at a moment is refused, whatever it is: 0 where it is not
abbrev pub refusal_at : ℕ → Option Inside → ℕ
refusal_at now None = NOTHING_THERE
refusal_at now (Some inside) = if is_next now inside then 0 else BAD_MOMENT

-- ---- making ----

-- how it asks its peer
abbrev pub timing_in : PeerSettings → Timing
timing_in p = record { keep = p.keep_ms; timeout = p.timeout_ms; tries = p.tries }

abbrev pub peer_pace : PeerSettings → Pace
peer_pace p = pace_of p.lifetime_ms p.keep_ms p.window p.brief

-- the peer's endpoint ID, a keeping time, a window of no more than all instance IDs, and a timing and a pace without a
-- fault at this endpoint ID
abbrev pub IsPeer : ℕ → PeerSettings → Type 0
IsPeer own p =
    IsEid p.device × IsKeep p.keep_ms × (p.window ≤ INSTANCE_IDS)
    × (setting_fault own p.device (timing_in p) (peer_pace p) ≡ None)

abbrev pub IsSetup : EndpointSettings → PeerSettings → Type 0
IsSetup s p = settings.IsSetup s × IsPeer (eid_or_null (first_eid s)) p

-- one was made with these settings at a moment; it asks another so, and nothing before a second moment
pub record IsTerminus (s : EndpointSettings) (other : ℕ) (times : Timing) (paced : Pace) (now from : ℕ) (new : Inside)
    : Type 0 where
  pub answering : answering.IsMade s now new.answering
  pub requester : IsBegunAt (eid_or_null (first_eid s)) other times paced new.asking.requester
  pub peer : new.asking.peer ≡ other
  pub timing : new.asking.timing ≡ times
  pub pace : new.asking.pace ≡ paced
  pub rest : new.asking.rest ≡ from

-- it is behind the handle
abbrev pub IsNew : EndpointSettings → PeerSettings → ℕ → ℕ → Option Inside → Type 0
IsNew s p now rest None = ⊥
IsNew s p now rest (Some new) = IsTerminus s p.device (timing_in p) (peer_pace p) now rest new

-- 0, or why none is made: one is there; the settings are none; a moment is past the last one; or no memory was left
pub record ReportsMaking (s : EndpointSettings) (p : PeerSettings) (now rest : ℕ) (is_live : Bool) (result : ℕ)
    : Type 0 where
  pub already : is_live ≡ true → result ≡ ALREADY_THERE
  pub out_of_range : is_live ≡ false → (IsSetup s p → ⊥) → result ≡ OUT_OF_RANGE
  pub bad_moment :
      is_live ≡ false → IsSetup s p → (now ≤ MAX_MOMENT → rest ≤ MAX_MOMENT → ⊥) → result ≡ BAD_MOMENT
  pub made :
      is_live ≡ false → IsSetup s p → now ≤ MAX_MOMENT → rest ≤ MAX_MOMENT → (result ≡ 0) ⊎ (result ≡ NO_MEMORY)

-- ---- opening ----

abbrev pub fault_number : AskFault → ℕ
fault_number NoEid = NO_EID
fault_number Resting = RESTING
fault_number (Open fault) = asking.fault_number fault

-- the request that its requester opens
abbrev pub Opens : Option RequesterView → ℕ → Opened → Type 0
Opens None now opened = ⊥
Opens (Some r) now opened = opening_answer (held_of r) now ≡ Ok opened

-- it opened this one, or opened none for this reason
abbrev pub IsOpening : AskingView → ℕ → Result Opened AskFault → Type 0
IsOpening a now (Ok opened) = (a.rest ≤ now) × Opens a.requester now opened
IsOpening a now (Err fault) = IsWhyNotOpened a now fault

-- the fields of that request, or the number of that reason
abbrev pub ReportsResult : Result Opened AskFault → OpeningReport → Type 0
ReportsResult (Ok opened) r = asking.ReportsOpened opened r
ReportsResult (Err fault) r = r.refusal ≡ fault_number fault

abbrev pub ReportsOpeningBy : AskingView → ℕ → OpeningReport → Type 0
ReportsOpeningBy a now r = (opening : Result Opened AskFault) × (IsOpening a now opening × ReportsResult opening r)

abbrev pub ReportsOpeningOf : Result Ask ℕ → ℕ → AskingView → OpeningReport → Type 0
ReportsOpeningOf (Err number) now a r = r.refusal ≡ number
ReportsOpeningOf (Ok ask) now a r = ReportsOpeningBy a now r

abbrev pub ReportsOpeningIn : ℕ → Result Ask ℕ → OpeningReport → Inside → Type 0
ReportsOpeningIn now asked r inside =
    MatchBool (is_next now inside) (ReportsOpeningOf asked now inside.asking r) (r.refusal ≡ BAD_MOMENT)

abbrev pub ReportsOpening : ℕ → Result Ask ℕ → OpeningReport → Option Inside → Type 0
ReportsOpening now asked r None = r.refusal ≡ NOTHING_THERE
ReportsOpening now asked r (Some inside) = ReportsOpeningIn now asked r inside

-- ---- ticks ----

-- the requests that are due stand in front; none are where there is no requester
abbrev pub AreDue : ℕ → DueReport → Option RequesterView → Type 0
AreDue now due None = (due.again_count ≡ 0) × (due.given_up_count ≡ 0)
AreDue now due (Some r) = asking.AreDue now (held_of r) due

abbrev pub ReportsDue : ℕ → DueReport → Option Inside → Type 0
ReportsDue now due None = ⊥
ReportsDue now due (Some inside) = AreDue now due inside.asking.requester

-- ---- packets that come ----

-- a packet comes to the requester, where there is one and it is a part of an answer
abbrev pub comes_to_asking : List ℕ → Inside → Bool
comes_to_asking bytes inside = is_some inside.asking.requester && is_answer bytes

-- the report of a half, and zeros for that of the other one
abbrev pub IsOfAsking : ComingReport → Type 0
IsOfAsking r = (r.half ≡ HALF_ASKING) × answering.IsRefused 0 r.step

abbrev pub IsOfAnswering : ComingReport → Type 0
IsOfAnswering r = (r.half ≡ HALF_ANSWERING) × asking.IsRefused 0 r.receiving

-- what the requester makes of it
abbrev pub ReportsTaken : List ℕ → PacketReport → Option RequesterView → Type 0
ReportsTaken bytes r None = ⊥
ReportsTaken bytes r (Some v) = asking.ReportsTaken (got_at (held_of v) bytes) r

abbrev pub ReportsAsking : ℕ → List ℕ → PacketReport → Inside → Type 0
ReportsAsking now bytes r inside =
    MatchBool (is_next now inside) (ReportsTaken bytes r inside.asking.requester) (asking.IsRefused BAD_MOMENT r)

-- what the answering end makes of it
abbrev pub ReportsAnswering : ℕ → List ℕ → StepReport → List (List ℕ) → Inside → Type 0
ReportsAnswering now bytes r rooms inside =
    MatchBool (is_next now inside)
    (answering.ReportsAllowed (refused_by inside.answering.endpoint now bytes) now bytes r rooms inside.answering)
    (answering.IsRefused BAD_MOMENT r)

abbrev pub ReportsComingIn : ℕ → List ℕ → ComingReport → List (List ℕ) → Inside → Type 0
ReportsComingIn now bytes r rooms inside =
    MatchBool (comes_to_asking bytes inside) (IsOfAsking r × ReportsAsking now bytes r.receiving inside)
    (IsOfAnswering r × ReportsAnswering now bytes r.step rooms inside)

abbrev pub ReportsComing : ℕ → List ℕ → ComingReport → List (List ℕ) → Option Inside → Type 0
ReportsComing now bytes r rooms None = IsOfAnswering r × answering.IsRefused NOTHING_THERE r.step
ReportsComing now bytes r rooms (Some inside) = ReportsComingIn now bytes r rooms inside

-- the answering end took it; where that gave it another endpoint ID, a requester begins anew
pub record IsAnsweringLeft (now : ℕ) (bytes : List ℕ) (kind : ℕ) (old new : Inside) : Type 0 where
  pub answering : answering.IsLeftByPacket now bytes kind old.answering new.answering
  pub asking :
      MatchBool (kind == STEP_REFUSED) (new.asking ≡ old.asking)
      (IsFollowed new.answering.endpoint.end.own old.answering.endpoint.end.own now old.asking new.asking)

abbrev pub IsLeftByComing : ℕ → List ℕ → ComingReport → Inside → Inside → Type 0
IsLeftByComing now bytes r old new =
    MatchBool (comes_to_asking bytes old) (IsAskingLeft (asking.received_by now bytes r.receiving.kind) old new)
    (IsAnsweringLeft now bytes r.step.kind old new)

-- ---- answers of the device ----

-- what is pending at the answering end under a handle
abbrev pub pending : HandleFields → Option Inside → Option PendingCommand
pending fields held = option_and_then (λ (inside : Inside). answering.pending_under fields inside.answering) held

-- the answering end is left so, and the other half as it was
pub record IsGivenTo (change : endpoint.Inside → endpoint.Inside → Type 0) (old new : Inside) : Type 0 where
  pub answering : change old.answering new.answering
  pub asking : new.asking ≡ old.asking

-- the answering end of what is behind the handle
abbrev pub answering_of : Option Inside → Option endpoint.Inside
answering_of None = None
answering_of (Some inside) = Some inside.answering

-- ---- restarting ----

pub record IsRestarted (now : ℕ) (old new : Inside) : Type 0 where
  pub answering : answering.IsRestarted now old.answering new.answering
  pub asking : HasBegun old.answering.endpoint.end.own now old.asking new.asking

abbrev pub IsLeftByRestart : ℕ → ℕ → Inside → Inside → Type 0
IsLeftByRestart now refusal old new = MatchBool (refusal == 0) (IsRestarted now old new) (new ≡ old)
