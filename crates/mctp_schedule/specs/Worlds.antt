-- Both ends over a schedule, the newest step first: what each requester is called with, and what happens on the link.
-- A reply that a step delivers is a packet of what the device gave.
use Rattle.std.specs.Prelude.{◌≡◌, ℕ, ◌+◌, ◌≤◌, ◌==◌, ◌&&◌, ◌||◌, not, nat_lt, nat_le, is_some, Bool, true, List, [], ◌∷◌, find, slice_get, Option, Some, None, option_and_then, if◌then◌else◌}
use Rattle.mctp_packet.specs.declared.TheConstants.{TAGS}
use Rattle.pldm_responder.specs.Arrivals.{packets_back}
use Rattle.pldm_responder.specs.Performing.{Rules, busy_reply}
use Rattle.pldm_requester.specs.Asks.{Ask}
use Rattle.pldm_requester.specs.Calls as requester
use Rattle.pldm_requester.specs.Calls.{accepts, requests}
use Rattle.pldm_requester.specs.Numbering.{message_with}
use Rattle.pldm_requester.specs.declared.pace.Pace.{Pace}
use Rattle.pldm_requester.specs.declared.timing.Timing.{Timing}
use Rattle.mctp_schedule.specs.FirstArrivals.{has_arrived}
use Rattle.mctp_schedule.specs.Logs.{Asked, Happening, Opened, Delivered, Sensed, WentDown, asked_at, message_at, endpoint_of}
use Rattle.mctp_schedule.specs.OncePerformed.{given, was_busy}
use Rattle.mctp_schedule.specs.Timely.{ComesInTime, is_in_window}
use Rattle.schedule_text.specs.Schedules.{is_requester}
use Rattle.schedule_text.specs.declared.step.RequesterLine.{RequesterLine}
use Rattle.mctp_schedule.specs.Actions.{Action}
use Rattle.mctp_schedule.specs.Actions.{Open, Tick, Request, Reply, Sense, Restart, Busy}
use Rattle.mctp_schedule.specs.Actions.{Step}

-- the calls of each requester, and what happened on the link, the newest first
pub record World : Type 0 where
  pub calls : ℕ → List requester.Call
  pub log : List Happening

-- what both ends are made of: the device's rules, its first state and its endpoint ID, the keeping time of both ends,
-- the device's window of instance IDs, the requesters of the schedule, and their pace
pub record BothEnds (S : Type 0) : Type 0 where
  pub device : Rules S
  pub start : S
  pub eid : ℕ
  pub keep : ℕ
  pub window : ℕ
  pub requesters : List RequesterLine
  pub pace : Pace

abbrev pub timing_from : ℕ → Option RequesterLine → Timing
timing_from keep None = record { keep = keep; timeout = 0; tries = 0 }
timing_from keep (Some line) = record { keep = keep; timeout = line.timeout; tries = line.tries }

-- the timing of a requester: that of its endpoint's line
abbrev pub timing_of : {S : Type 0} → BothEnds S → ℕ → Timing
timing_of setting e = timing_from setting.keep (find (is_requester (endpoint_of e)) setting.requesters)

-- one more call of requester e
abbrev pub with_call : (ℕ → List requester.Call) → ℕ → requester.Call → ℕ → List requester.Call
with_call calls e call d = if d == e then call ∷ calls d else calls d

abbrev pub source_of : Option Asked → ℕ
source_of None = 0
source_of (Some r) = r.source

-- the packets by which the device at an endpoint answers a request with this message
abbrev pub answer_packets : ℕ → Asked → List ℕ → List (List ℕ)
answer_packets own r message = packets_back own (message_at r.opening r) message

module _ {S : Type 0} (setting : BothEnds S) where
  -- the requests of the requester at an endpoint
  abbrev pub requests_of : World → ℕ → requester.Requests
  requests_of world e = requests (endpoint_of e) setting.eid (timing_of setting e) setting.pace (world.calls e)

  -- the request that an accepted open makes
  abbrev pub asked_by : World → ℕ → ℕ → Ask → Asked
  asked_by world moment e ask =
      let own = (requests_of world e).count in
      record { source = e; own = own; opening = moment; message = message_with own ask }

  -- an open happens on the link where the requester accepts it
  abbrev pub log_opened : World → ℕ → ℕ → Ask → List Happening
  log_opened world moment e ask =
      if accepts (timing_of setting e).keep setting.pace (requests_of world e) moment
      then Opened (asked_by world moment e ask) ∷ world.log
      else world.log

  -- packet j of the message that answered a request; `None` where none did
  abbrev pub packet_of : Option Asked → Option (List ℕ) → ℕ → Option (List ℕ)
  packet_of None message j = None
  packet_of (Some r) message j = option_and_then (λ bytes. slice_get (answer_packets setting.eid r bytes) j) message

  -- packet j of the latest reply that the device gave to request k, busy answers aside; `None` where there is none
  abbrev pub reply_packet : World → ℕ → ℕ → Option (List ℕ)
  reply_packet world k j =
      packet_of (asked_at world.log k) (given setting.device setting.window setting.keep setting.start world.log k) j

  -- the one packet of the busy answer to a request, where it was given
  abbrev pub busy_from : Option Asked → Bool → Option (List ℕ)
  busy_from None given = None
  busy_from (Some r) given =
      if given then slice_get (answer_packets setting.eid r (busy_reply r.message)) 0 else None

  -- the packet of the latest busy answer that the device gave to request k; `None` where there is none
  abbrev pub busy_packet : World → ℕ → Option (List ℕ)
  busy_packet world k = busy_from (asked_at world.log k) (was_busy S setting.keep world.log k)

  -- a packet is handed to the requester at an endpoint; none changes nothing
  abbrev pub handed : World → ℕ → ℕ → Option (List ℕ) → World
  handed world moment e None = world
  handed world moment e (Some bytes) =
      record { calls = with_call world.calls e (requester.Receive moment bytes); log = world.log }

  -- what a step makes of the world
  abbrev pub done : World → ℕ → Action → World
  done world moment (Open e ask) =
      let opens = requester.OpenRequest moment ask in
      record { calls = with_call world.calls e opens; log = log_opened world moment e ask }
  done world moment (Tick e) = record { calls = with_call world.calls e (requester.Tick moment); log = world.log }
  done world moment (Request k) = record { calls = world.calls; log = Delivered moment k ∷ world.log }
  done world moment (Reply j k) = handed world moment (source_of (asked_at world.log k)) (reply_packet world k j)
  done world moment (Sense id value) = record { calls = world.calls; log = Sensed moment id value ∷ world.log }
  done world moment Restart = record { calls = world.calls; log = WentDown moment ∷ world.log }
  done world moment (Busy k) = handed world moment (source_of (asked_at world.log k)) (busy_packet world k)

  abbrev pub happens : World → Step → World
  happens world step = done world step.moment step.action

  -- the world after these steps
  abbrev pub world : List Step → World
  world [] = record { calls = λ e. []; log = [] }
  world (step ∷ past) = happens (world past) step

  -- request k's tag was not used again by its requester
  abbrev pub TagIsOwn : World → ℕ → Type 0
  TagIsOwn world k =
      (r : Asked) → asked_at world.log k ≡ Some r → (requests_of world r.source).count ≤ r.own + TAGS

  -- a request comes in time, and a packet of an answer while its tag was not used again
  abbrev pub IsTimelyAction : World → ℕ → Action → Type 0
  IsTimelyAction world moment (Request k) =
      (r : Asked) → asked_at world.log k ≡ Some r → ComesInTime S setting.window setting.keep setting.pace.lifetime world.log moment k r
  IsTimelyAction world moment (Reply j k) = (bytes : List ℕ) → reply_packet world k j ≡ Some bytes → TagIsOwn world k
  IsTimelyAction world moment (Busy k) = (bytes : List ℕ) → busy_packet world k ≡ Some bytes → TagIsOwn world k
  IsTimelyAction world moment (Open e ask) = Unit {0}
  IsTimelyAction world moment (Tick e) = Unit {0}
  IsTimelyAction world moment (Sense id value) = Unit {0}
  IsTimelyAction world moment Restart = Unit {0}

  -- each step is, in the world that it comes to
  abbrev pub IsTimely : List Step → Type 0
  IsTimely [] = Unit {0}
  IsTimely (step ∷ past) = IsTimelyAction (world past) step.moment step.action × IsTimely past

-- the moment of the newest of these steps, 0 where there is none
abbrev pub time_now : List Step → ℕ
time_now [] = 0
time_now (step ∷ past) = step.moment

-- moments never go back; here the newest step is the first
abbrev pub NeverWentBack : List Step → Type 0
NeverWentBack [] = Unit {0}
NeverWentBack (step ∷ past) = (time_now past ≤ step.moment) × NeverWentBack past

module _ {S : Type 0} (setting : BothEnds S) where
  -- the tests of the same

  abbrev pub comes_in_time : List Happening → ℕ → ℕ → Option Asked → Bool
  comes_in_time log moment k None = true
  comes_in_time log moment k (Some r) =
      nat_lt moment (r.opening + setting.pace.lifetime)
      && (not (has_arrived S setting.keep log k) || is_in_window S setting.window setting.keep log r)

  abbrev pub tag_is_own : World → Option Asked → Bool
  tag_is_own world None = true
  tag_is_own world (Some r) = nat_le (requests_of setting world r.source).count (r.own + TAGS)

  abbrev pub is_timely_action : World → ℕ → Action → Bool
  is_timely_action world moment (Request k) = comes_in_time world.log moment k (asked_at world.log k)
  is_timely_action world moment (Reply j k) =
      not (is_some (reply_packet setting world k j)) || tag_is_own world (asked_at world.log k)
  is_timely_action world moment (Busy k) =
      not (is_some (busy_packet setting world k)) || tag_is_own world (asked_at world.log k)
  is_timely_action world moment _ = true

  abbrev pub is_timely : List Step → Bool
  is_timely [] = true
  is_timely (step ∷ past) = is_timely_action (world setting past) step.moment step.action && is_timely past
