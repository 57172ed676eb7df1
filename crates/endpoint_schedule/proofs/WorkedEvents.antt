-- The premises of the law over schedules are met: a device posts an event as a sensor gets a reading; the receiver at 8
-- polls it, takes it and acknowledges it, and the device drops it. The device answers GetTid as a poll, by the event's ID
-- in place of its terminus ID, and SetTid as an acknowledgement. The newest step stands first.
use Rattle.std.proofs.Common.{◌≡◌, ◌≢◌, ℕ, ℤ, pos, ◌==◌, Bool, true, false, cond, List, [], ◌∷◌, Option, Some, None, Result, Ok, Err, refl, sym, ap, subst, inr, arith}
use Rattle.std.specs.Prelude.{slice_get, if◌then◌else◌}
use Rattle.event_queue.specs.Queues.{IsNext, PlatformEvent, QueueView, acknowledged, begun, head}
use Rattle.event_queue.specs.declared.receiver.EventRequest.{EventRequest}
use Rattle.event_queue.specs.declared.receiver.EventRequest.TheVariants.{Poll, Acknowledge}
use Rattle.endpoint_schedule.specs.EventDevices.{EventDevice, KeepsEvents, Posting, posted_over, with_postings}
use Rattle.endpoint_schedule.specs.EventLaws.{AreTakenOverSchedule, EventsOverSchedules, queue_after}
use Rattle.endpoint_schedule.specs.EventReceiving.{AsksInTurn, following}
use Rattle.mctp_packet.specs.Ids.{IsEid}
use Rattle.mctp_packet.specs.declared.reason.Reason.{Reason}
use Rattle.mctp_schedule.specs.Laws.{TimelyIsTested}
use Rattle.mctp_schedule.specs.Logs.{Asked, asked_at, endpoint_of}
use Rattle.mctp_schedule.specs.OncePerformed.{FitsPackets, RepliesFit}
use Rattle.mctp_schedule.specs.RequesterHalf.{IsSound, IsTimelySchedule}
use Rattle.mctp_schedule.specs.Worlds.{BothEnds, NeverWentBack, asked_by, is_timely, world}
use Rattle.pldm_platform.specs.Changes.{changed_or}
use Rattle.pldm_platform.specs.declared.platform.ReadingFault.{ReadingFault}
use Rattle.pldm_platform.specs.declared.platform.ReadingFault.TheVariants.{NoSuchSensor}
use Rattle.pldm_requester.specs.Asks.{ask_of}
use Rattle.pldm_requester.specs.Pacing.{at_default}
use Rattle.pldm_responder.specs.Performing.{Rules, after_command, answer_to, next, next_after, reply, reply_to, rules_of}
use Rattle.pldm_wire.specs.Answers.{answer_message}
use Rattle.pldm_wire.specs.CommandReading.{command_of}
use Rattle.pldm_wire.specs.Kinds.{TypeAndCommand}
use Rattle.pldm_wire.specs.Requests as requests
use Rattle.pldm_wire.specs.Requests.{request_of}
use Rattle.pldm_wire.specs.Responses.{response_of}
use Rattle.pldm_wire.specs.declared.answer.Answer.{Answer}
use Rattle.pldm_wire.specs.declared.answer.Answer.TheVariants as answers
use Rattle.pldm_wire.specs.declared.command.Command.{Command}
use Rattle.pldm_wire.specs.declared.command.Command.TheVariants.{GetTid, SetTid}
use Rattle.mctp_schedule.specs.Actions.{Action}
use Rattle.mctp_schedule.specs.Actions.{open_for, Reply, Request, Sense}
use Rattle.mctp_schedule.specs.Actions.{Step}
use Rattle.mctp_schedule.proofs.PremiseTests.{all_rest, are_of_kinds, are_rested}

-- ---- the device: it posted no event yet, holds it, or has dropped it
data Stage : Type 0 where
  Before : Stage
  Holding : Stage
  After : Stage

abbrev the_event : PlatformEvent
the_event = record { id = 1; class = 0; contents = [] }

abbrev queue_in : Stage → QueueView
queue_in Before = begun 1 1
queue_in Holding = record { most = 1; next = 2; events = the_event ∷ []; refused = 0 }
queue_in After = record { most = 1; next = 2; events = []; refused = 0 }

abbrev asks_command : Command → Option EventRequest
asks_command GetTid = Some Poll
asks_command (SetTid tid) = Some (Acknowledge tid)
asks_command _ = None

abbrev asks_result : Result Command ℕ → Option EventRequest
asks_result (Ok command) = asks_command command
asks_result (Err code) = None

abbrev asks_request : Result requests.Request Reason → Option EventRequest
asks_request (Ok request) = asks_result (command_of request.kind request.rest)
asks_request (Err reason) = None

abbrev polled_in : Stage → Answer
polled_in Before = answers.Refused 1
polled_in Holding = answers.GetTid 1
polled_in After = answers.Refused 1

abbrev answered_in : Stage → Option EventRequest → Answer
answered_in stage None = answers.Refused 1
answered_in stage (Some Poll) = polled_in stage
answered_in stage (Some (Acknowledge id)) = answers.SetTid

abbrev dropped_in : Stage → ℕ → Stage
dropped_in Before id = Before
dropped_in Holding id = if 1 == id then After else Holding
dropped_in After id = After

abbrev after_in : Stage → Option EventRequest → Stage
after_in stage None = stage
after_in stage (Some Poll) = stage
after_in stage (Some (Acknowledge id)) = dropped_in stage id

abbrev sensed_in : Stage → ℕ → ℤ → Result Stage ReadingFault
sensed_in Before id value = Ok Holding
sensed_in Holding id value = Err NoSuchSensor
sensed_in After id value = Err NoSuchSensor

abbrev device : Rules Stage
device = rules_of (λ stage command. answered_in stage (asks_command command)) (λ stage command. after_in stage (asks_command command)) sensed_in

-- the byte of the terminus ID in a response, after its completion code
abbrev event_by : Option ℕ → Option PlatformEvent
event_by None = None
event_by (Some tid) = if tid == 1 then Some the_event else None

abbrev senses_in : Stage → List Posting
senses_in Before = record { class = 0; contents = [] } ∷ []
senses_in Holding = []
senses_in After = []

abbrev events : EventDevice Stage
events = record {
  queue = queue_in;
  asks = λ bytes. asks_request (request_of bytes);
  brings = λ message. event_by (slice_get message 5);
  posts = λ stage bytes. [];
  senses = λ stage id value. senses_in stage;
}

-- ---- it keeps its queue by the calls
abbrev IsPolled : Stage → List ℕ → Stage → Type 0
IsPolled stage message after = (events.brings message ≡ head (queue_in stage).events) × (queue_in after ≡ queue_in stage)

abbrev IsDropped : ℕ → Stage → List ℕ → Stage → Type 0
IsDropped id stage message after = (events.brings message ≡ None) × (queue_in after ≡ acknowledged (queue_in stage) id)

polled_at : (id : ℕ) (kind : TypeAndCommand) (stage : Stage) → IsPolled stage (answer_message id kind (polled_in stage)) stage
polled_at id kind Before = (refl, refl)
polled_at id kind Holding = (refl, refl)
polled_at id kind After = (refl, refl)

dropped_at : (id : ℕ) (kind : TypeAndCommand) (event : ℕ) (stage : Stage) → IsDropped event stage (answer_message id kind answers.SetTid) (dropped_in stage event)
dropped_at id kind event Before = (refl, refl)
dropped_at id kind event After = (refl, refl)
dropped_at id kind event Holding = (refl, go (1 == event))
  where
    go : (b : Bool) → queue_in (if b then After else Holding) ≡ record (queue_in Holding) { events = if b then [] else the_event ∷ [] }
    go true = refl
    go false = refl

polled : (stage : Stage) (bytes : List ℕ) → events.asks bytes ≡ Some Poll → IsPolled stage (reply device stage bytes) (next device stage bytes)
polled stage bytes e = go (request_of bytes) e
  where
    inner : (id : ℕ) (kind : TypeAndCommand) (c : Result Command ℕ) → asks_result c ≡ Some Poll → IsPolled stage (answer_message id kind (answer_to device stage c)) (after_command device stage c)
    inner id kind (Err code) e = absurd (cc)
    inner id kind (Ok command) e = subst (λ (o : Option EventRequest). IsPolled stage (answer_message id kind (answered_in stage o)) (after_in stage o)) (sym e) (polled_at id kind stage)

    go : (o : Result requests.Request Reason) → asks_request o ≡ Some Poll → IsPolled stage (reply_to device stage o) (next_after device stage o)
    go (Err reason) e = absurd (cc)
    go (Ok request) e = inner request.id request.kind (command_of request.kind request.rest) e

dropped : (stage : Stage) (bytes : List ℕ) (event : ℕ) → events.asks bytes ≡ Some (Acknowledge event) → IsDropped event stage (reply device stage bytes) (next device stage bytes)
dropped stage bytes event e = go (request_of bytes) e
  where
    inner : (id : ℕ) (kind : TypeAndCommand) (c : Result Command ℕ) → asks_result c ≡ Some (Acknowledge event) → IsDropped event stage (answer_message id kind (answer_to device stage c)) (after_command device stage c)
    inner id kind (Err code) e = absurd (cc)
    inner id kind (Ok command) e = subst (λ (o : Option EventRequest). IsDropped event stage (answer_message id kind (answered_in stage o)) (after_in stage o)) (sym e) (dropped_at id kind event stage)

    go : (o : Result requests.Request Reason) → asks_request o ≡ Some (Acknowledge event) → IsDropped event stage (reply_to device stage o) (next_after device stage o)
    go (Err reason) e = absurd (cc)
    go (Ok request) e = inner request.id request.kind (command_of request.kind request.rest) e

others : (stage : Stage) (bytes : List ℕ) → events.asks bytes ≡ None → queue_in (next device stage bytes) ≡ queue_in stage
others stage bytes e = go (request_of bytes) e
  where
    inner : (c : Result Command ℕ) → asks_result c ≡ None → queue_in (after_command device stage c) ≡ queue_in stage
    inner (Err code) e = refl
    inner (Ok command) e = ap (λ (o : Option EventRequest). queue_in (after_in stage o)) e

    go : (o : Result requests.Request Reason) → asks_request o ≡ None → queue_in (next_after device stage o) ≡ queue_in stage
    go (Err reason) e = refl
    go (Ok request) e = inner (command_of request.kind request.rest) e

sensed : (stage : Stage) (id : ℕ) (value : ℤ) → queue_in (changed_or stage (sensed_in stage id value)) ≡ with_postings (queue_in stage) (senses_in stage)
sensed Before id value = refl
sensed Holding id value = refl
sensed After id value = refl

keeps_events : KeepsEvents device events
keeps_events = record { polled = polled; acknowledged = dropped; performed = others; sensed = sensed }

is_next : IsNext 1
is_next = record { some = omega arith; few = omega arith }

-- ---- the schedule
abbrev setting : BothEnds Stage
setting = record {
  device = device;
  start = Before;
  eid = 9;
  keep = 1000;
  window = 32;
  requesters = record { eid = 8; timeout = 200; tries = 3 } ∷ [];
  pace = at_default 1000;
}

abbrev at : ℕ → Action → Step
at moment action = record { moment = moment; action = action }

abbrev polls : List Step
polls = at 40 (Reply 0 0) ∷ at 30 (Request 0) ∷ at 20 (open_for 8 GetTid) ∷ at 10 (Sense 1 (pos 0)) ∷ []

-- the acknowledgement comes twice
abbrev steps : List Step
steps = at 60 (Reply 0 1) ∷ at 58 (Request 1) ∷ at 55 (Request 1) ∷ at 50 (open_for 8 (SetTid 1)) ∷ polls

timely : is_timely setting steps ≡ true
unfolding request_of command_of response_of
timely = refl

abbrev poll : Asked
poll = asked_by setting (world setting []) 20 8 (ask_of GetTid)

abbrev acknowledgement : Asked
acknowledgement = asked_by setting (world setting polls) 50 8 (ask_of (SetTid 1))

same : (P : Asked → Type 0) (q : Asked) → P q → (r : Asked) → Some q ≡ Some r → P r
same P q x r e = subst P (let y : q ≡ r = cc in y) x

either : (P : Asked → Type 0) (q p : Asked) → P q → P p → (b c : Bool) (r : Asked) → cond b (Some q) (cond c (Some p) None) ≡ Some r → P r
either P q p x y true c r e = same P q x r e
either P q p x y false true r e = same P p y r e
either P q p x y false false r e = absurd (cc)

from_eight : (k : ℕ) (r : Asked) → asked_at (world setting steps).log k ≡ Some r → IsEid (endpoint_of r.source) × (endpoint_of r.source ≢ 9)
unfolding request_of command_of response_of
from_eight k r e =
    either (λ (q : Asked). IsEid (endpoint_of q.source) × (endpoint_of q.source ≢ 9)) acknowledgement poll ((omega arith, omega arith), omega arith) ((omega arith, omega arith), omega arith) (k == 1) (k == 0) r e

abbrev Fits : Stage → Asked → Type 0
Fits stage q = FitsPackets (reply device stage q.message)

poll_fits : Fits Holding poll
unfolding request_of command_of
poll_fits = record { some = omega arith; few = omega arith }

acknowledgement_fits : (stage : Stage) → Fits stage acknowledgement
unfolding request_of command_of response_of
acknowledgement_fits stage = record { some = omega arith; few = omega arith }

fit : RepliesFit device 32 1000 Before (world setting steps).log
unfolding request_of command_of response_of
fit = (
  λ r e fresh. same (Fits After) acknowledgement (acknowledgement_fits After) r e,
  (λ r e fresh. same (Fits Holding) acknowledgement (acknowledgement_fits Holding) r e, (λ r e fresh. same (Fits Holding) poll poll_fits r e, tt)),
)

rested : all_rest 1000 (world setting steps).log ≡ true
unfolding request_of command_of response_of
rested = refl

sound : IsSound setting steps
sound = record { device = (omega arith, omega arith); sources = from_eight; fit = fit; pace = record { within = omega arith; window = inr refl }; asks = are_of_kinds steps refl; rested = are_rested 1000 (world setting steps).log rested }

in_order : NeverWentBack steps
in_order = (omega arith, (omega arith, (omega arith, (omega arith, (omega arith, (omega arith, (omega arith, (omega arith, tt))))))))

-- the test of a timely schedule is exact, as a law says
is_schedule : TimelyIsTested setting → IsTimelySchedule setting steps
is_schedule tested = record { order = in_order; timely = (tested steps).0 timely; sound = sound }

the_same : (p q : EventRequest) → Some p ≡ Some q → q ≡ p
the_same p q e = cc

asks_in_turn : AsksInTurn setting events 8 steps
unfolding request_of command_of response_of
asks_in_turn = (
  tt,
  (
    tt,
    (
      tt,
      (
        λ request ok asks. (refl, refl, the_same (Acknowledge 1) request asks),
        (tt, (tt, (λ request ok asks. (refl, refl, the_same Poll request asks), (tt, tt)))),
      ),
    ),
  ),
)

-- so it is taken once, and dropped
over_schedule : EventsOverSchedules setting → TimelyIsTested setting → AreTakenOverSchedule setting events 8 steps
over_schedule law tested = law events 8 1 1 steps keeps_events is_next refl (is_schedule tested) asks_in_turn

posted_one : posted_over device events 1000 Before (world setting steps).log ≡ the_event ∷ []
unfolding request_of command_of response_of
posted_one = refl

taken_one : (following setting events 8 steps).taken ≡ the_event ∷ []
unfolding request_of command_of response_of
taken_one = refl

none_left : queue_after setting events steps ≡ queue_in After
unfolding request_of command_of response_of
none_left = refl
