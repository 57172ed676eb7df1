-- What both ends hold after some steps, and that it stays over a step which brings it nothing.
use Rattle.std.specs.FinMap as map
use Rattle.std.proofs.Common.{◌≡◌, ℕ, ◌<◌, ◌≤◌, ◌%◌, Bool, true, false, List, ◌∷◌, length, Option, Some, None, refl, sym, ap, ◌∙◌, subst, arith}
use Rattle.std.specs.Prelude.{◌&&◌, ◌||◌, ◌==◌, slice_get, if◌then◌else◌}
use Rattle.mctp_packet.specs.Ids.{IsEid}
use Rattle.mctp_packet.specs.declared.TheConstants.{BASELINE_UNIT, TAGS}
use Rattle.pldm_endpoint.specs.RequestKeys.{request_key}
use Rattle.pldm_endpoint.specs.TwoSteps.{held_in}
use Rattle.pldm_endpoint.specs.declared.pending_commands.PendingCommand.{PendingCommand}
use Rattle.pldm_endpoint.proofs.ByParts.{IsLeftByParts}
use Rattle.pldm_requester.specs.Asks.{Ask}
use Rattle.pldm_requester.specs.Calls.{accepts}
use Rattle.pldm_responder.specs.Asked.{Given}
use Rattle.pldm_responder.specs.Calls.{Call, events}
use Rattle.pldm_responder.specs.Performing.{busy_reply}
use Rattle.pldm_wire.specs.declared.restart_policy.RestartPolicy.TheVariants.{All}
use Rattle.mctp_schedule.specs.FirstArrivals.{first, is_answered_busy_at}
use Rattle.mctp_schedule.specs.Logs.{Asked, Happening, Opened, Delivered, Sensed, WentDown, AreRested, asked_at, endpoint_of, last_of, reached}
use Rattle.mctp_schedule.specs.OncePerformed.{IsReadable, RepliesFit, the_reply, was_busy}
use Rattle.mctp_schedule.specs.RequesterHalf.{IsTimelySchedule}
use Rattle.mctp_schedule.specs.Worlds.{BothEnds, IsTimely, NeverWentBack, World, answer_packets, asked_by, done, requests_of, time_now, timing_of, world}
use Rattle.mctp_schedule.specs.Actions.{Action, AreOfKinds, Step}
use Rattle.mctp_schedule.specs.Actions as actions
use Rattle.mctp_schedule.proofs.KnownRequests.{asked_stays, stays_done}
use Rattle.mctp_schedule.proofs.UntouchedRequests.{first_more}
use Rattle.endpoint_schedule.specs.Links.{Link, LinkSettings, over_time}
use Rattle.endpoint_schedule.specs.OverTime.{IsSoundLink, to_hand_out}
use Rattle.endpoint_schedule.proofs.AskedInOrder.{device, reply_at}

or_true : (b : Bool) → (b || true) ≡ true
or_true true = refl
or_true false = refl

abbrev pub step_at : ℕ → Action → Step
step_at moment action = record { moment = moment; action = action }

-- a step that brings its packet, where there is one
abbrev pub with_step : Option (List ℕ) → Step → List Step → List Step
with_step None step steps = steps
with_step (Some bytes) step steps = step ∷ steps

module _ (settings : LinkSettings) (answers : ℕ → Given) where
  abbrev pub setting : BothEnds ℕ
  setting = over_time settings answers

  abbrev pub reply_to : List Happening → ℕ → List ℕ
  reply_to log k = the_reply (device settings.handed_on answers) settings.keep 0 log k

  -- ---- what is known of one request
  -- what went out to request k
  pub record IsSent (log : List Happening) (k : ℕ) (packets : List (List ℕ)) : Type 0 where
    pub r : Asked
    pub place : List Happening
    pub asked : asked_at log k ≡ Some r
    pub came : first ℕ settings.keep log k ≡ Some place
    pub is : packets ≡ answer_packets settings.eid r (reply_to log k)

  pub record IsNotReady (log : List Happening) (k : ℕ) (packets : List (List ℕ)) : Type 0 where
    pub r : Asked
    pub asked : asked_at log k ≡ Some r
    pub busy : was_busy ℕ settings.keep log k ≡ true
    pub is : packets ≡ answer_packets settings.eid r (busy_reply r.message)

  -- what is pending for this source
  pub record IsPending (log : List Happening) (handed_out : List ℕ) (source : ℕ) (a : PendingCommand) : Type 0 where
    pub k : ℕ
    pub r : Asked
    pub place : List Happening
    pub asked : asked_at log k ≡ Some r
    pub came : first ℕ settings.keep log k ≡ Some place
    pub from : endpoint_of r.source ≡ source
    pub tag : a.tag ≡ r.own % TAGS
    pub bytes : a.request ≡ r.message
    pub number : slice_get handed_out a.number ≡ Some k

  -- a request's message is one packet that is read
  pub record IsFine (r : Asked) : Type 0 where
    pub readable : IsReadable r.message
    pub some : 0 < length r.message
    pub few : length r.message ≤ BASELINE_UNIT

  pub reply_stays : (h : Happening) (log : List Happening) (k : ℕ) (r : Asked) (place : List Happening) → asked_at log k ≡ Some r → first ℕ settings.keep log k ≡ Some place → reply_to (h ∷ log) k ≡ reply_to log k
  reply_stays h log k r place e f =
      reply_at settings.handed_on answers settings.keep (h ∷ log) k r place (asked_stays h log k r e) (first_more ℕ settings.keep h log k place f)
      ∙ sym (reply_at settings.handed_on answers settings.keep log k r place e f)

  pub sent_moves : (k : ℕ) (packets : List (List ℕ)) (h : Happening) (log : List Happening) → IsSent log k packets → IsSent (h ∷ log) k packets
  sent_moves k packets h log x = record {
    r = x.r;
    place = x.place;
    asked = asked_stays h log k x.r x.asked;
    came = first_more ℕ settings.keep h log k x.place x.came;
    is = x.is ∙ ap (answer_packets settings.eid x.r) (sym (reply_stays h log k x.r x.place x.asked x.came));
  }

  pub busy_more : (h : Happening) (log : List Happening) (k : ℕ) → was_busy ℕ settings.keep log k ≡ true → was_busy ℕ settings.keep (h ∷ log) k ≡ true
  busy_more (Opened r) log k e = e
  busy_more (Delivered moment j) log k e =
      ap (λ b. (j == k && is_answered_busy_at ℕ settings.keep log moment k) || b) e ∙ or_true (j == k && is_answered_busy_at ℕ settings.keep log moment k)
  busy_more (Sensed _ _ _) log k e = e
  busy_more (WentDown _) log k e = e

  pub not_ready_moves : (k : ℕ) (packets : List (List ℕ)) (h : Happening) (log : List Happening) → IsNotReady log k packets → IsNotReady (h ∷ log) k packets
  not_ready_moves k packets h log x = record {
    r = x.r;
    asked = asked_stays h log k x.r x.asked;
    busy = busy_more h log k x.busy;
    is = x.is;
  }

  pub pending_moves : (handed_out : List ℕ) (source : ℕ) (a : PendingCommand) (h : Happening) (log : List Happening) → IsPending log handed_out source a → IsPending (h ∷ log) handed_out source a
  pending_moves handed_out source a h log x = record {
    k = x.k;
    r = x.r;
    place = x.place;
    asked = asked_stays h log x.k x.r x.asked;
    came = first_more ℕ settings.keep h log x.k x.place x.came;
    from = x.from;
    tag = x.tag;
    bytes = x.bytes;
    number = x.number;
  }

  -- ---- what is known of all
  pub record AreKnown (l : Link) : Type 0 where
    pub sent : (k : ℕ) (packets : List (List ℕ)) → l.sent k ≡ Some packets → IsSent l.world.log k packets
    pub not_ready : (k : ℕ) (packets : List (List ℕ)) → l.not_ready k ≡ Some packets → IsNotReady l.world.log k packets
    pub pending : (source id : ℕ) (a : PendingCommand) → map.get l.end.pending (request_key source id) ≡ Some a → IsPending l.world.log l.handed_out source a
    pub fine : (k : ℕ) (r : Asked) → asked_at l.world.log k ≡ Some r → IsFine r

  -- the endpoint holds what its calls leave, and the requests that they brought are those of the link; what is pending
  -- came to the endpoint ID that the requesters ask
  pub record IsEnd (l : Link) : Type 0 where
    pub calls : List (Call ℕ)
    pub own : ℕ
    pub assigned : IsEid own
    pub parts : IsLeftByParts own settings.handed_on All settings.window settings.keep answers l.end.count l.end.pending (held_in l.end) calls
    pub asked_here : (source id : ℕ) (a : PendingCommand) → map.get l.end.pending (request_key source id) ≡ Some a → own ≡ settings.eid
    pub handed_on : l.end.handed_on ≡ settings.handed_on
    pub events : events own calls ≡ reached {S = ℕ} l.world.log
    pub listed : l.handed_out ≡ to_hand_out settings.handed_on settings.keep l.world.log

  -- the steps of a schedule in which both ends do the same
  pub record IsAsScheduled (l : Link) (moment : ℕ) (steps : List Step) : Type 0 where
    pub same : l.world ≡ world setting steps
    pub last : time_now steps ≤ moment
    pub log_last : last_of l.world.log ≤ moment
    pub order : NeverWentBack steps
    pub asks : AreOfKinds steps
    pub timely : IsTimely setting steps
    pub fit : RepliesFit (device settings.handed_on answers) settings.window settings.keep 0 l.world.log

  pub schedule_of : (l : Link) (moment : ℕ) (steps : List Step) → IsSoundLink settings answers l → IsAsScheduled l moment steps → IsTimelySchedule setting steps
  schedule_of l moment steps sound x = record {
    order = x.order;
    timely = x.timely;
    sound = record {
      device = sound.device;
      sources = λ k r is. sound.sources k r (ap (λ (w : World). asked_at w.log k) x.same ∙ is);
      fit = subst (λ (w : World). RepliesFit (device settings.handed_on answers) settings.window settings.keep 0 w.log) x.same x.fit;
      pace = sound.pace;
      asks = x.asks;
      rested = subst (λ (w : World). AreRested settings.keep w.log) x.same sound.rested;
    };
  }

  -- a moment later, where nothing happened that is a step of the schedule
  pub stays_scheduled : (l new : Link) (before moment : ℕ) (steps : List Step) → new.world ≡ l.world → before ≤ moment → IsAsScheduled l before steps → IsAsScheduled new moment steps
  stays_scheduled l new before moment steps same later x = record {
    same = same ∙ x.same;
    last = let y = x.last in omega (arith, y, later);
    log_last = subst (λ (w : World). last_of w.log ≤ moment) (sym same) (let y = x.log_last in omega (arith, y, later));
    order = x.order;
    asks = x.asks;
    timely = x.timely;
    fit = subst (λ (w : World). RepliesFit (device settings.handed_on answers) settings.window settings.keep 0 w.log) (sym same) x.fit;
  }

  -- the device's end goes down
  pub down_scheduled : (l new : Link) (before moment : ℕ) (steps : List Step) → new.world ≡ done setting l.world moment actions.Restart → before ≤ moment → IsAsScheduled l before steps
      → IsAsScheduled new moment (step_at moment actions.Restart ∷ steps)
  down_scheduled l new before moment steps now_is later x = record {
    same = now_is ∙ ap (λ w. done setting w moment actions.Restart) x.same;
    last = omega arith;
    log_last = subst (λ (w : World). last_of w.log ≤ moment) (sym now_is) (omega arith);
    order = (let y = x.last in omega (arith, y, later), x.order);
    asks = (tt, x.asks);
    timely = (tt, x.timely);
    fit = subst (λ (w : World). RepliesFit (device settings.handed_on answers) settings.window settings.keep 0 w.log) (sym now_is) x.fit;
  }

  pub record Holds (l : Link) (moment : ℕ) (steps : List Step) : Type 0 where
    pub known : AreKnown l
    pub end : IsEnd l
    pub as_scheduled : IsAsScheduled l moment steps

  -- ---- a step of the schedule, where what is known stays
  pub known_done : (l : Link) (moment : ℕ) (action : Action) (new : Link) → new.world ≡ done setting l.world moment action
      → new.sent ≡ l.sent → new.not_ready ≡ l.not_ready → new.handed_out ≡ l.handed_out
      → ((source id : ℕ) (a : PendingCommand) → map.get new.end.pending (request_key source id) ≡ Some a → map.get l.end.pending (request_key source id) ≡ Some a)
      → ((k : ℕ) (r : Asked) → asked_at new.world.log k ≡ Some r → IsFine r)
      → AreKnown l → AreKnown new
  known_done l moment action new now_is sent not_ready handed_out pending fine x = record {
    sent = λ k packets is.
        subst (λ (w : World). IsSent w.log k packets) (sym now_is)
        (stays_done setting (λ log. IsSent log k packets) (sent_moves k packets) l.world moment action (x.sent k packets (ap (λ f. f k) (sym sent) ∙ is)));
    not_ready = λ k packets is.
        subst (λ (w : World). IsNotReady w.log k packets) (sym now_is)
        (stays_done setting (λ log. IsNotReady log k packets) (not_ready_moves k packets) l.world moment action (x.not_ready k packets (ap (λ f. f k) (sym not_ready) ∙ is)));
    pending = λ source id a is.
        subst (λ (w : World). IsPending w.log new.handed_out source a) (sym now_is)
        (subst (λ hs. IsPending (done setting l.world moment action).log hs source a) (sym handed_out)
        (stays_done setting (λ log. IsPending log l.handed_out source a) (pending_moves l.handed_out source a) l.world moment action (x.pending source id a (pending source id a is))));
    fine = fine;
  }

  -- an open happens on the link or not; neither reaches the endpoint
  pub end_opened : (l : Link) (moment e : ℕ) (ask : Ask) → IsEnd l → IsEnd (record l { world = done setting l.world moment (actions.Open e ask) })
  end_opened l moment e ask x = go (accepts (timing_of setting e).keep setting.pace (requests_of setting l.world e) moment)
    where
      go : (b : Bool) → IsEnd (record l { world = record { calls = (done setting l.world moment (actions.Open e ask)).calls; log = if b then Opened (asked_by setting l.world moment e ask) ∷ l.world.log else l.world.log } })
      go true = record { calls = x.calls; own = x.own; assigned = x.assigned; parts = x.parts; asked_here = x.asked_here; handed_on = x.handed_on; events = x.events; listed = x.listed }
      go false = record { calls = x.calls; own = x.own; assigned = x.assigned; parts = x.parts; asked_here = x.asked_here; handed_on = x.handed_on; events = x.events; listed = x.listed }

  pub fit_opened : (l : Link) (moment e : ℕ) (ask : Ask) → RepliesFit (device settings.handed_on answers) settings.window settings.keep 0 l.world.log → RepliesFit (device settings.handed_on answers) settings.window settings.keep 0 (done setting l.world moment (actions.Open e ask)).log
  fit_opened l moment e ask x = go (accepts (timing_of setting e).keep setting.pace (requests_of setting l.world e) moment)
    where
      go : (b : Bool) → RepliesFit (device settings.handed_on answers) settings.window settings.keep 0 (if b then Opened (asked_by setting l.world moment e ask) ∷ l.world.log else l.world.log)
      go true = x
      go false = x
