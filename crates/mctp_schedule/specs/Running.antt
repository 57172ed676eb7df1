-- What a run holds after some steps, the newest first: both ends, and what is written down of them.
use Rattle.std.specs.Prelude.{◌≡◌, ◌≢◌, ℕ, ◌<◌, ◌≤◌, true, false, List, [], ◌∷◌, ◌++◌, length, Option, Some, None, IfSome, is_some, option_map, slice_get, Bool}
use Rattle.mctp_packet.specs.Ids.{IsEid}
use Rattle.mctp_packet.specs.declared.TheConstants.{BASELINE_UNIT}
use Rattle.pldm_responder.specs.Calls as responder
use Rattle.pldm_responder.specs.Laws as responder_laws
use Rattle.pldm_responder.specs.Performing.{Rules, busy_reply}
use Rattle.pldm_responder.specs.ResponderViews as responder_stations
use Rattle.pldm_wire.specs.declared.restart_policy.RestartPolicy.TheVariants.{All}
use Rattle.pldm_wire.specs.declared.command.Command.{Command}
use Rattle.pldm_requester.specs.Pacing.{at_default}
use Rattle.pldm_requester.specs.Laws as requester_laws
use Rattle.pldm_requester.specs.Slots.{held_of}
use Rattle.mctp_schedule.specs.Askers.{Side, packet_bytes}
use Rattle.mctp_schedule.specs.Entries.{as_it_stands, entries, numbers_of}
use Rattle.mctp_schedule.specs.EntryColumns.{outcomes_in}
use Rattle.mctp_schedule.specs.ArrivedIds.{ids_at}
use Rattle.mctp_schedule.specs.FirstArrivals.{has_arrived, order}
use Rattle.mctp_schedule.specs.HeldRuns.{HeldRun}
use Rattle.mctp_schedule.specs.Journals.{Carried, packets_in}
use Rattle.mctp_schedule.specs.Logs.{Asked, Happening, Opened, Delivered, Sensed, WentDown, asked_at, count_of, reached, endpoint_of}
use Rattle.mctp_schedule.specs.OncePerformed.{AreRequests, IsReadable, RepliesFit, given, was_busy}
use Rattle.mctp_schedule.specs.PerformedCommands.{commands_at_step}
use Rattle.mctp_schedule.specs.Places.{side_at}
use Rattle.mctp_schedule.specs.Timely.{ids_arrived}
use Rattle.schedule_text.specs.Schedules.{has_requester}
use Rattle.mctp_schedule.specs.Worlds.{BothEnds, World, answer_packets, is_timely, requests_of, time_now, timing_of, world}
use Rattle.mctp_schedule.specs.declared.entry.Entry.{Entry}
use Rattle.schedule_text.specs.declared.step.RequesterLine.{RequesterLine}
use Rattle.mctp_schedule.specs.Actions.{Action, Busy, Reply, Step, is_known}

-- the packet of a request comes to the responder; a request that was never opened has none
abbrev pub received : {S : Type 0} → ℕ → ℕ → Option Asked → List (responder.Call S) → List (responder.Call S)
received eid moment None calls = calls
received eid moment (Some r) calls =
    responder.Received moment (packet_bytes (endpoint_of r.source) eid r.own r.message) ∷ calls

-- the calls of the responder at the endpoint `eid`
abbrev pub device_calls : {S : Type 0} → ℕ → List Happening → List (responder.Call S)
device_calls eid [] = []
device_calls eid (Opened r ∷ past) = device_calls eid past
device_calls eid (Delivered moment k ∷ past) = received eid moment (asked_at past k) (device_calls eid past)
device_calls eid (Sensed moment id value ∷ past) = responder.Sensed id value ∷ device_calls eid past
device_calls eid (WentDown moment ∷ past) = responder.Restart moment ∷ device_calls eid past

-- a request that was opened: its requester has a line, it has a number there, and one packet, which the device reads
pub record IsOpened {S : Type 0} (setting : BothEnds S) (w : World) (k : ℕ) (r : Asked) : Type 0 where
  pub source : has_requester setting.requesters r.source ≡ true
  pub within : r.own < (requests_of setting w r.source).count
  pub number : slice_get (numbers_of w.log r.source) r.own ≡ Some k
  pub readable : IsReadable r.message
  pub some : 0 < length r.message
  pub few : length r.message ≤ BASELINE_UNIT

-- the requester at the endpoint e holds what its calls leave
pub record IsSide {S : Type 0} (setting : BothEnds S) (w : World) (now e : ℕ) (side : Side) : Type 0 where
  pub endpoint : IsEid e
  pub other : e ≢ setting.eid
  pub left : requester_laws.IsLeftBy (endpoint_of e) setting.eid (timing_of setting e) setting.pace (held_of side.station) (w.calls e)
  pub numbers : side.numbers ≡ numbers_of w.log e
  pub counted : length (numbers_of w.log e) ≡ (requests_of setting w e).count
  pub numbered : (own k : ℕ) → slice_get (numbers_of w.log e) own ≡ Some k
      → (r : Asked) × (asked_at w.log k ≡ Some r) × (r.source ≡ e) × (r.own ≡ own)
  pub called : (held_of side.station).last ≤ now

-- the responder holds what its calls leave, which are what reached it over the link
pub record IsDevice {P S : Type 0}
    (setting : BothEnds S) (w : World) (now : ℕ) (station : responder_stations.ResponderView P S) : Type 0 where
  pub endpoint : IsEid setting.eid
  pub left :
      responder_laws.IsLeftBy setting.device setting.eid All setting.window setting.keep setting.start
      (responder_stations.held_of station) (device_calls setting.eid w.log)
  pub events : responder.events setting.eid (device_calls setting.eid w.log) ≡ reached {S = S} w.log
  pub called : (responder_stations.held_of station).last ≤ now

abbrev pub IsBefore : ℕ → Option ℕ → Type 0
IsBefore count place = IfSome place (λ i. i < count)

-- the packets of the latest busy answer to a request, where there was one
abbrev pub busy_packets : ℕ → Asked → Bool → Option (List (List ℕ))
busy_packets eid r true = Some (answer_packets eid r (busy_reply r.message))
busy_packets eid r false = None

-- what is written down of request k, which is r, has its packet, its latest reply and its latest busy answer
pub record IsCarried {S : Type 0}
    (setting : BothEnds S) (w : World) (entries : List Entry) (k : ℕ) (r : Asked) (carried : Carried) : Type 0 where
  pub packet : carried.header ++ r.message ≡ packet_bytes (endpoint_of r.source) setting.eid r.own r.message
  pub reply : packets_in entries carried.reply
      ≡ option_map (answer_packets setting.eid r)
      (given setting.device setting.window setting.keep setting.start w.log k)
  pub busy : packets_in entries carried.busy ≡ busy_packets setting.eid r (was_busy S setting.keep w.log k)
  pub arrived : is_some carried.reply ≡ has_arrived S setting.keep w.log k
  pub reply_place : IsBefore (length (outcomes_in entries)) carried.reply
  pub busy_place : IsBefore (length (outcomes_in entries)) carried.busy

-- this is what a run holds after these steps
pub record IsRunning {P S : Type 0} (setting : BothEnds S) (past : List Step) (run : HeldRun P S) : Type 0 where
  pub times : run.keep ≡ setting.keep
  pub window : run.window ≡ setting.window
  pub pace : setting.pace ≡ at_default setting.keep
  pub device : IsDevice setting (world setting past) (time_now past) run.responder
  pub sides : (e : ℕ) → has_requester setting.requesters e ≡ true
      → (side : Side) × (side_at run.places e ≡ Some side) × IsSide setting (world setting past) (time_now past) e side
  pub opened : (k : ℕ) (r : Asked) → asked_at (world setting past).log k ≡ Some r
      → IsOpened setting (world setting past) k r
  pub requests : (k : ℕ) → slice_get run.journal.requests.items k
      ≡ option_map (as_it_stands setting (world setting past)) (asked_at (world setting past).log k)
  pub counted : length run.journal.requests.items ≡ count_of (world setting past).log
  pub traffic : (k : ℕ) (r : Asked) → asked_at (world setting past).log k ≡ Some r
      → (carried : Carried) × (slice_get run.journal.traffic.items k ≡ Some carried)
      × IsCarried setting (world setting past) run.journal.entries k r carried
  pub carried : length run.journal.traffic.items ≡ count_of (world setting past).log
  pub entries : run.journal.entries ≡ entries setting past
  pub order : run.journal.order.items ≡ order S setting.window setting.keep (world setting past).log
  pub arrived : (source : ℕ)
      → ids_at run.arrivals source ≡ ids_arrived S setting.keep (world setting past).log source
  pub timely : run.journal.timely ≡ is_timely setting past
  pub sent : AreRequests (world setting past).log
  pub fit : RepliesFit setting.device setting.window setting.keep setting.start (world setting past).log

-- what a run is about: the device's first state and endpoint ID, the keeping time, the window, and the requesters
pub record RunSettings (S : Type 0) : Type 0 where
  pub start : S
  pub eid : ℕ
  pub keep : ℕ
  pub window : ℕ
  pub requesters : List RequesterLine

abbrev pub setting_of : {S : Type 0} → Rules S → RunSettings S → BothEnds S
setting_of device terms = record {
  device = device;
  start = terms.start;
  eid = terms.eid;
  keep = terms.keep;
  window = terms.window;
  requesters = terms.requesters;
  pace = at_default terms.keep;
}

-- a step may come after these: its moment does not go back, and its requester has a line
pub record MayCome (requesters : List RequesterLine) (past : List Step) (step : Step) : Type 0 where
  pub later : time_now past ≤ step.moment
  pub known : is_known requesters step.action ≡ true

-- a packet of the latest answer to request k is delivered, a busy answer or a reply
abbrev pub answer_action : Bool → ℕ → ℕ → Action
answer_action true k packet = Busy k
answer_action false k packet = Reply packet k

-- an action at a moment
abbrev pub at : ℕ → Action → Step
at moment action = record { moment = moment; action = action }

module _ {P S : Type 0} (device : Rules S) where
  -- some steps led to what a run holds, and this one may come after them
  abbrev pub CanGoOn : HeldRun P S → Step → Type 0
  CanGoOn run step =
      (terms : RunSettings S) × (past : List Step)
      × IsRunning (setting_of device terms) past run
      × MayCome terms.requesters past step

  -- whatever steps led to what was held, they and this one lead to what is held now
  abbrev pub GoesOn : HeldRun P S → Step → HeldRun P S → Type 0
  GoesOn old step new =
      (terms : RunSettings S) (past : List Step)
      → IsRunning (setting_of device terms) past old → MayCome terms.requesters past step
      → IsRunning (setting_of device terms) (step ∷ past) new

  -- and from the platform that was held to the one that is held now the commands of this step were performed
  abbrev pub Performs : (P → List Command → P → Type 0) → HeldRun P S → Step → HeldRun P S → Type 0
  Performs performed old step new =
      (terms : RunSettings S) (past : List Step)
      → IsRunning (setting_of device terms) past old → MayCome terms.requesters past step
      → performed old.responder.platform
      (commands_at_step S terms.window terms.keep (world (setting_of device terms) past).log step.moment step.action)
      new.responder.platform

  -- a run has done this step
  pub record HasDone
      (performed : P → List Command → P → Type 0) (old : HeldRun P S) (step : Step) (new : HeldRun P S)
      : Type 0 where
    pub goes_on : GoesOn old step new
    pub performs : Performs performed old step new
