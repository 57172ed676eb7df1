-- Step by step, both ends do what a schedule of requesters and a responder does whose platform gives what the device
-- gives. So the headline for that one says what holds of both ends.
use Rattle.std.specs.FinMap as map
use Rattle.std.proofs.Common.{◌≡◌, ℕ, ◌≤◌, Bool, true, false, cond, List, [], ◌∷◌, Option, Some, None, refl, sym, ap, ◌∙◌, subst, ⊎_elim, arith}
use Rattle.std.specs.Prelude.{◌==◌, is_some, option_map, slice_get, if◌then◌else◌}
use Rattle.std.proofs.lemmas.Bool.{cases_eq, cond-false, ne_eqb}
use Rattle.std.specs.Ordering.{eq_by_cmp}
use Rattle.mctp_packet.specs.Ids.{IsEid}
use Rattle.mctp_packet.specs.Pieces.{written_packets}
use Rattle.mctp_packet.specs.declared.TheConstants.{NULL_EID}
use Rattle.pldm_endpoint.specs.Giving.{busy_with}
use Rattle.pldm_endpoint.specs.Receiving.{HasAnswered, HasForgotten, IsAsBefore}
use Rattle.pldm_endpoint.specs.RequestKeys.{pending_at, request_key, request_key_cmp}
use Rattle.pldm_endpoint.specs.TwoSteps.{EndpointView, IsAnsweredBy, IsItsAnswer, answered_held, held_in}
use Rattle.pldm_endpoint.specs.declared.pending_commands.PendingCommand.{PendingCommand}
use Rattle.pldm_endpoint.specs.declared.pending_commands.RequestKey.{RequestKey}
use Rattle.pldm_endpoint.specs.declared.step.CommandHandle.{CommandHandle}
use Rattle.pldm_endpoint.specs.declared.step.Step as endpoint_steps
use Rattle.pldm_endpoint.specs.declared.step.Step.TheVariants as taken
use Rattle.pldm_endpoint.proofs.AnswersInTurn.{answered_in_turn, assigned_in_turn, new_in_turn, restarted_in_turn, same_in_turn}
use Rattle.pldm_endpoint.proofs.ByParts.{IsLeftByParts}
use Rattle.pldm_endpoint.proofs.KeyOrder.{request_keys_total}
use Rattle.pldm_endpoint.proofs.PendingGlue.{numbered_is}
use Rattle.pldm_requester.specs.Asks.{Ask}
use Rattle.pldm_requester.specs.Calls.{accepts}
use Rattle.pldm_requester.specs.Numbering.{id_of}
use Rattle.pldm_responder.specs.Asked.{Given}
use Rattle.pldm_responder.specs.Calls.{Assigned, Restart}
use Rattle.pldm_responder.specs.Events.{Restarted}
use Rattle.pldm_responder.specs.OutsideAnswers.{outcome_of_answer}
use Rattle.pldm_responder.specs.ResponderStates.{IsHeld, held_at_first}
use Rattle.pldm_responder.specs.Steps.{assigned_held, restarted_held}
use Rattle.pldm_responder.specs.declared.bounds.Bounds.{Bounds}
use Rattle.pldm_responder.specs.declared.outcome.Outcome.{Outcome}
use Rattle.pldm_responder.specs.declared.responder_settings.ResponderSettings.{ResponderSettings}
use Rattle.pldm_wire.specs.HandingOn.{hands_on}
use Rattle.pldm_wire.specs.Requests.{request}
use Rattle.pldm_wire.specs.declared.restart_policy.RestartPolicy.{RestartPolicy}
use Rattle.pldm_wire.specs.declared.restart_policy.RestartPolicy.TheVariants.{All, Sets}
use Rattle.mctp_schedule.specs.Deliveries.{packets_of_outcome}
use Rattle.mctp_schedule.specs.FirstArrivals.{first}
use Rattle.mctp_schedule.specs.Logs.{Asked, Happening, Opened, asked_at, last_of, AreRested}
use Rattle.mctp_schedule.specs.Logs.{count_of as logs_count}
use Rattle.mctp_schedule.specs.OncePerformed.{given}
use Rattle.mctp_schedule.specs.RequesterHalf.{IsTimelySchedule}
use Rattle.mctp_schedule.specs.Timely.{IsTimelyLog}
use Rattle.mctp_schedule.specs.Worlds.{IsTimelyAction, TagIsOwn, World, answer_packets, asked_by, busy_from, busy_packet, done, handed, packet_of, reply_packet, requests_of, source_of, timing_of, world}
use Rattle.mctp_schedule.specs.Actions.{Action, IsOfKind, Step}
use Rattle.mctp_schedule.specs.Actions as actions
use Rattle.mctp_schedule.proofs.DeliveriesExpected.{given_is_the_reply}
use Rattle.mctp_schedule.proofs.FirstPerformed.{request_opened}
use Rattle.mctp_schedule.proofs.KnownRequests.{asked_stays_done, handed_log}
use Rattle.mctp_schedule.proofs.ListPlaces.{get_front, get_within}
use Rattle.mctp_schedule.proofs.OneReplyTaken.{answered_was_performed}
use Rattle.mctp_schedule.proofs.PacedLogs.{paced_log_is_timely}
use Rattle.mctp_schedule.proofs.RepliesAreTaken.{request_read}
use Rattle.mctp_schedule.proofs.TimelyLogs.{rested_before}
use Rattle.endpoint_schedule.specs.Links.{over_time as over_time_ends, Answers, AreInTime, Assigns, Delivers, DeliversNotReady, IsFirst, IsRun, IsShort, IsStep, IsTimelyStep, Link, LinkSettings, LinkStep, NeverGoesBack, Opens, Passes, Receives, Refuses, Restarts, Ticks, after, handed_out_by, link, moment_of, now, packet_in, put, sent_to, with_packets}
use Rattle.endpoint_schedule.specs.OverTime.{BothEndsOverTime, HoldsOverTime, IsSoundLink, IsTimelyLink, LinksAreSchedules, asks_device, reply_of, to_hand_out}
use Rattle.endpoint_schedule.specs.OverTime as over_time
use Rattle.endpoint_schedule.proofs.AskedInOrder.{count_of, device, given_is, numbered, refused_is, reply_at}
use Rattle.endpoint_schedule.proofs.LinkPasses.{passes_holds}
use Rattle.endpoint_schedule.proofs.LinkReceives.{Laws, put_here, put_other, received_holds}
use Rattle.endpoint_schedule.proofs.LinkState.{Holds, IsFine, IsPending, IsSent, down_scheduled, end_opened, fit_opened, known_done, reply_to, schedule_of, setting, stays_scheduled, step_at}

-- ---- what is removed was there
removed : (pending : map.FinMap request_key_cmp PendingCommand) (key other : RequestKey) (b : PendingCommand) → map.get (map.remove pending key) other ≡ Some b → map.get pending other ≡ Some b
removed pending key other b is = go (eq_by_cmp request_key_cmp other key) (sym (map.get-remove request_keys_total pending key other) ∙ is)
  where
    go : (t : Bool) → cond t None (map.get pending other) ≡ Some b → map.get pending other ≡ Some b
    go true e = absurd (cc)
    go false e = e

-- ---- what was handed out keeps its number
still_out : (before : List ℕ) (k : ℕ) (step : endpoint_steps.Step) (n j : ℕ) → slice_get before n ≡ Some j → slice_get (handed_out_by before k step) n ≡ Some j
still_out before k (taken.Done outcome) n j is = is
still_out before k (taken.Perform handle) n j is = get_front before k n (get_within before n j is) ∙ is
still_out before k (taken.Respond handle) n j is = get_front before k n (get_within before n j is) ∙ is

module _ (settings : LinkSettings) (answers : ℕ → Given) where
  pub asked_stays_after : (l : Link) (step : LinkStep) (k : ℕ) (r : Asked) → asked_at l.world.log k ≡ Some r → asked_at (after settings answers l step).world.log k ≡ Some r
  asked_stays_after l (Opens moment e ask) k r is = asked_stays_done (setting settings answers) l.world moment (actions.Open e ask) k r is
  asked_stays_after l (Ticks moment e) k r is = is
  asked_stays_after l (Receives moment j new step) k r is = is
  asked_stays_after l (Passes moment bytes new step) k r is = is
  asked_stays_after l (Refuses moment new) k r is = is
  asked_stays_after l (Answers moment handle new outcome) k r is = is
  asked_stays_after l (Delivers moment j i) k r is = ap (λ log. asked_at log k) (handed_log (setting settings answers) l.world moment (source_of (asked_at l.world.log i)) (packet_in (l.sent i) j)) ∙ is
  asked_stays_after l (DeliversNotReady moment i) k r is = ap (λ log. asked_at log k) (handed_log (setting settings answers) l.world moment (source_of (asked_at l.world.log i)) (packet_in (l.not_ready i) 0)) ∙ is
  asked_stays_after l (Restarts moment new) k r is = is
  asked_stays_after l (Assigns moment eid new) k r is = is

  pub out_stays : (l : Link) (step : LinkStep) (n k : ℕ) → slice_get l.handed_out n ≡ Some k → slice_get (after settings answers l step).handed_out n ≡ Some k
  out_stays l (Opens moment e ask) n k is = is
  out_stays l (Ticks moment e) n k is = is
  out_stays l (Receives moment j new step) n k is = still_out l.handed_out j step n k is
  out_stays l (Passes moment bytes new step) n k is = is
  out_stays l (Refuses moment new) n k is = is
  out_stays l (Answers moment handle new outcome) n k is = is
  out_stays l (Delivers moment j i) n k is = is
  out_stays l (DeliversNotReady moment i) n k is = is
  out_stays l (Restarts moment new) n k is = is
  out_stays l (Assigns moment eid new) n k is = is

  rested_after : (l : Link) (step : LinkStep) → AreRested settings.keep (after settings answers l step).world.log → AreRested settings.keep l.world.log
  rested_after l (Opens moment e ask) rested = rested_before (setting settings answers) l.world moment (actions.Open e ask) rested
  rested_after l (Ticks moment e) rested = rested
  rested_after l (Receives moment j new step) rested = rested
  rested_after l (Passes moment bytes new step) rested = rested
  rested_after l (Refuses moment new) rested = rested
  rested_after l (Answers moment handle new outcome) rested = rested
  rested_after l (Delivers moment j i) rested = subst (AreRested settings.keep) (handed_log (setting settings answers) l.world moment (source_of (asked_at l.world.log i)) (packet_in (l.sent i) j)) rested
  rested_after l (DeliversNotReady moment i) rested = subst (AreRested settings.keep) (handed_log (setting settings answers) l.world moment (source_of (asked_at l.world.log i)) (packet_in (l.not_ready i) 0)) rested
  rested_after l (Restarts moment new) rested = rested
  rested_after l (Assigns moment eid new) rested = rested

  pub sound_before : (l : Link) (step : LinkStep) → IsSoundLink settings answers (after settings answers l step) → IsSoundLink settings answers l
  sound_before l step s = record {
    device = s.device;
    sources = λ k r is. s.sources k r (asked_stays_after l step k r is);
    fit = λ n k r out is. s.fit n k r (out_stays l step n k out) (asked_stays_after l step k r is);
    pace = s.pace;
    rested = rested_after l step s.rested;
  }

  abbrev Scheduled : Link → ℕ → Type 0
  Scheduled l moment = (steps : List Step) × Holds settings answers l moment steps

  module _ (laws : Laws) (l : Link) (before : ℕ) (steps : List Step) (holds : Holds settings answers l before steps) (moment : ℕ) (later : before ≤ moment) where
    abbrev log : List Happening
    log = l.world.log

    -- ---- a requester is called
    abbrev asked_new : ℕ → Ask → Asked
    asked_new e ask = asked_by (setting settings answers) l.world moment e ask

    new_fine : (e : ℕ) (ask : Ask) → IsShort ask → IsFine settings answers (asked_new e ask)
    new_fine e ask short =
        let own = (requests_of (setting settings answers) l.world e).count in
        record {
          readable = (request (id_of own) ask.kind ask.rest, request_read laws.lower.requests own ask short.kind);
          some = omega arith;
          few = let f = short.few in omega (arith, f);
        }

    opened_fine : (e : ℕ) (ask : Ask) → IsShort ask → (k : ℕ) (r : Asked) → asked_at (done (setting settings answers) l.world moment (actions.Open e ask)).log k ≡ Some r → IsFine settings answers r
    opened_fine e ask short k r is = go (accepts (timing_of (setting settings answers) e).keep settings.pace (requests_of (setting settings answers) l.world e) moment) is
      where
        go : (b : Bool) → asked_at (if b then Opened (asked_new e ask) ∷ log else log) k ≡ Some r → IsFine settings answers r
        go false e' = holds.known.fine k r e'
        go true e' =
            ⊎_elim
            (λ (x : (k ≡ logs_count log) × (asked_new e ask ≡ r)). subst (IsFine settings answers) x.1 (new_fine e ask short))
            (λ (x : (k ≡ logs_count log → ⊥) × (asked_at log k ≡ Some r)). holds.known.fine k r x.1)
            (request_opened (asked_new e ask) log k r e')

    opened_last : (e : ℕ) (ask : Ask) → last_of (done (setting settings answers) l.world moment (actions.Open e ask)).log ≤ moment
    opened_last e ask = go (accepts (timing_of (setting settings answers) e).keep settings.pace (requests_of (setting settings answers) l.world e) moment)
      where
        go : (b : Bool) → last_of (if b then Opened (asked_by (setting settings answers) l.world moment e ask) ∷ log else log) ≤ moment
        go true = omega arith
        go false = let y = holds.as_scheduled.log_last in omega (arith, y, later)

    opens_holds : (e : ℕ) (ask : Ask) → IsShort ask → Holds settings answers (after settings answers l (Opens moment e ask)) moment (step_at moment (actions.Open e ask) ∷ steps)
    opens_holds e ask short = record {
      known = known_done settings answers l moment (actions.Open e ask) (after settings answers l (Opens moment e ask)) refl refl refl refl (λ s i a is. is) (opened_fine e ask short) holds.known;
      end = end_opened settings answers l moment e ask holds.end;
      as_scheduled = record {
        same = ap (λ w. done (setting settings answers) w moment (actions.Open e ask)) holds.as_scheduled.same;
        last = omega arith;
        log_last = opened_last e ask;
        order = (let y = holds.as_scheduled.last in omega (arith, y, later), holds.as_scheduled.order);
        asks = (short.kind, holds.as_scheduled.asks);
        timely = (tt, holds.as_scheduled.timely);
        fit = fit_opened settings answers l moment e ask holds.as_scheduled.fit;
      };
    }

    ticks_holds : (e : ℕ) → Holds settings answers (after settings answers l (Ticks moment e)) moment (step_at moment (actions.Tick e) ∷ steps)
    ticks_holds e = record {
      known = known_done settings answers l moment (actions.Tick e) (after settings answers l (Ticks moment e)) refl refl refl refl (λ s i a is. is) holds.known.fine holds.known;
      end = record { calls = holds.end.calls; own = holds.end.own; assigned = holds.end.assigned; parts = holds.end.parts; asked_here = holds.end.asked_here; handed_on = holds.end.handed_on; events = holds.end.events; listed = holds.end.listed };
      as_scheduled = record {
        same = ap (λ w. done (setting settings answers) w moment (actions.Tick e)) holds.as_scheduled.same;
        last = omega arith;
        log_last = let y = holds.as_scheduled.log_last in omega (arith, y, later);
        order = (let y = holds.as_scheduled.last in omega (arith, y, later), holds.as_scheduled.order);
        asks = (tt, holds.as_scheduled.asks);
        timely = (tt, holds.as_scheduled.timely);
        fit = holds.as_scheduled.fit;
      };
    }

    -- ---- a packet is refused
    refuses_holds : (new : EndpointView) → IsAsBefore new l.end → Holds settings answers (after settings answers l (Refuses moment new)) moment steps
    refuses_holds new x = record {
      known = record {
        sent = holds.known.sent;
        not_ready = holds.known.not_ready;
        pending = λ s i a is. holds.known.pending s i a (ap (λ p. map.get p (request_key s i)) (sym x.pending) ∙ is);
        fine = holds.known.fine;
      };
      end = record {
        calls = holds.end.calls;
        own = holds.end.own;
        assigned = holds.end.assigned;
        asked_here = λ s i a is. holds.end.asked_here s i a (ap (λ p. map.get p (request_key s i)) (sym x.pending) ∙ is);
        parts =
            same_in_turn holds.end.own settings.handed_on All settings.window settings.keep answers new.count new.pending (held_in new) (held_in l.end) holds.end.calls x.held
            (subst (λ n. IsLeftByParts holds.end.own settings.handed_on All settings.window settings.keep answers n new.pending (held_in l.end) holds.end.calls) (sym x.count)
            (subst (λ (p : map.FinMap request_key_cmp PendingCommand). IsLeftByParts holds.end.own settings.handed_on All settings.window settings.keep answers l.end.count p (held_in l.end) holds.end.calls) (sym x.pending) holds.end.parts));
        handed_on = x.settings.handed_on ∙ holds.end.handed_on;
        events = holds.end.events;
        listed = holds.end.listed;
      };
      as_scheduled = stays_scheduled settings answers l _ before moment steps refl later holds.as_scheduled;
    }

    -- ---- the device answers
    module _ (handle : CommandHandle) (new : EndpointView) (outcome : Outcome) (x : HasAnswered l.end handle (answers handle.number) new outcome) (a : PendingCommand) (at : pending_at l.end.pending handle ≡ Some a) where
      abbrev l_after : Link
      l_after = after settings answers l (Answers moment handle new outcome)

      found : (map.get l.end.pending (request_key handle.source handle.id) ≡ Some a) × (a.number ≡ handle.number)
      found = numbered_is handle.number (map.get l.end.pending (request_key handle.source handle.id)) a at

      its : IsPending settings answers log l.handed_out handle.source a
      its = holds.known.pending handle.source handle.id a found.0

      its_own : holds.end.own ≡ settings.eid
      its_own = holds.end.asked_here handle.source handle.id a found.0

      place_is : slice_get l.handed_out handle.number ≡ Some its.k
      place_is = ap (slice_get l.handed_out) (sym found.1) ∙ its.number

      abbrev packets : List (List ℕ)
      packets = answer_packets settings.eid its.r (reply_to settings answers log its.k)

      reply_now : reply_to settings answers log its.k ≡ reply_of settings.handed_on (answers handle.number) a.request
      reply_now =
          given_is settings.handed_on answers settings.keep log a.number its.k its.r its.asked (ap (λ xs. slice_get xs a.number) (sym holds.end.listed) ∙ its.number)
          ∙ (λ i. reply_of settings.handed_on (answers (found.1 i)) (sym its.bytes i))

      outcome_is : outcome ≡ outcome_of_answer (hands_on settings.handed_on) settings.eid handle.source a.tag a.request (answers handle.number)
      outcome_is =
          subst (λ o. IsAnsweredBy l.end.handed_on l.end.end.own handle (answers handle.number) o outcome) at x.outcome_is
          ∙ (λ i. outcome_of_answer (hands_on (holds.end.handed_on i)) ((holds.end.parts.left.endpoint ∙ its_own) i) handle.source a.tag a.request (answers handle.number))

      goes_out : packets_of_outcome outcome ≡ Some packets
      goes_out =
          ap packets_of_outcome outcome_is
          ∙ (λ i. Some (written_packets (record { destination = sym its.from i; source = settings.eid; owner = false; tag = its.tag i }) (sym reply_now i)))

      sent_now : l_after.sent ≡ put l.sent its.k (Some packets)
      sent_now = (λ i. sent_to (place_is i) outcome l.sent) ∙ ap (with_packets l.sent its.k) goes_out

      answers_holds : Holds settings answers l_after moment steps
      answers_holds = record {
        known = record {
          sent = λ n ps is. sent_at n ps (ap (λ f. f n) (sym sent_now) ∙ is);
          not_ready = holds.known.not_ready;
          pending = λ s i b is. holds.known.pending s i b (removed l.end.pending (request_key handle.source handle.id) (request_key s i) b (ap (λ p. map.get p (request_key s i)) (sym x.pending) ∙ is));
          fine = holds.known.fine;
        };
        end = record {
          calls = holds.end.calls;
          own = holds.end.own;
          assigned = holds.end.assigned;
          asked_here = λ s i b is. its_own;
          parts =
              same_in_turn holds.end.own settings.handed_on All settings.window settings.keep answers new.count new.pending (held_in new) (answered_held settings.handed_on (held_in l.end) handle (answers handle.number) (Some a)) holds.end.calls
              (subst (λ h. IsHeld (held_in new) (answered_held h (held_in l.end) handle (answers handle.number) (Some a))) holds.end.handed_on
              (subst (λ o. IsHeld (held_in new) (answered_held l.end.handed_on (held_in l.end) handle (answers handle.number) o)) at x.held))
              (subst (λ n. IsLeftByParts holds.end.own settings.handed_on All settings.window settings.keep answers n new.pending (answered_held settings.handed_on (held_in l.end) handle (answers handle.number) (Some a)) holds.end.calls) (sym x.count)
              (subst (λ (p : map.FinMap request_key_cmp PendingCommand). IsLeftByParts holds.end.own settings.handed_on All settings.window settings.keep answers l.end.count p (answered_held settings.handed_on (held_in l.end) handle (answers handle.number) (Some a)) holds.end.calls) (sym x.pending)
              (answered_in_turn holds.end.own settings.handed_on All settings.window settings.keep answers l.end.count l.end.pending (held_in l.end) holds.end.calls handle a holds.end.parts at)));
          handed_on = x.settings.handed_on ∙ holds.end.handed_on;
          events = holds.end.events;
          listed = holds.end.listed;
        };
        as_scheduled = stays_scheduled settings answers l _ before moment steps refl later holds.as_scheduled;
      }
        where
          sent_at : (n : ℕ) (ps : List (List ℕ)) → put l.sent its.k (Some packets) n ≡ Some ps → IsSent settings answers log n ps
          sent_at n ps is =
              ⊎_elim
              (λ (same : its.k ≡ n).
              let here : Some packets ≡ Some ps = sym (put_here l.sent its.k (Some packets)) ∙ ap (put l.sent its.k (Some packets)) same ∙ is in
              subst (λ j. IsSent settings answers log j ps) same
              (record { r = its.r; place = its.place; asked = its.asked; came = its.came; is = (let e : packets ≡ ps = cc in sym e) }))
              (λ (other : its.k ≡ n → ⊥). holds.known.sent n ps (sym (put_other l.sent its.k n (Some packets) other) ∙ is))
              (cases_eq its.k n)

    answered_holds : (handle : CommandHandle) (new : EndpointView) (outcome : Outcome) → HasAnswered l.end handle (answers handle.number) new outcome → Holds settings answers (after settings answers l (Answers moment handle new outcome)) moment steps
    answered_holds handle new outcome x = go (pending_at l.end.pending handle) refl x.its_answer
      where
        go : (o : Option PendingCommand) → pending_at l.end.pending handle ≡ o → IsItsAnswer o (answers handle.number) → Holds settings answers (after settings answers l (Answers moment handle new outcome)) moment steps
        go None at none = absurd none
        go (Some a) at _ = answers_holds handle new outcome x a at

    -- ---- the endpoint restarts
    none_pending : (new : EndpointView) → HasForgotten new l.end → (s i : ℕ) (a : PendingCommand) → map.get new.pending (request_key s i) ≡ Some a → ⊥
    none_pending new x s i a is =
        let none : map.get new.pending (request_key s i) ≡ None = ap (λ (p : map.FinMap request_key_cmp PendingCommand). map.get p (request_key s i)) x.idle ∙ map.get-empty request_key_cmp (request_key s i) in
        let wrong : None ≡ Some a = sym none ∙ is in cc

    restarts_holds : (new : EndpointView) → IsHeld (held_in new) (restarted_held (held_in l.end) moment) → HasForgotten new l.end → Holds settings answers (after settings answers l (Restarts moment new)) moment (step_at moment actions.Restart ∷ steps)
    restarts_holds new held x = record {
      known = known_done settings answers l moment actions.Restart (after settings answers l (Restarts moment new)) refl refl refl refl
          (λ s i a is. absurd (none_pending new x s i a is))
          holds.known.fine holds.known;
      end = record {
        calls = Restart moment ∷ holds.end.calls;
        own = holds.end.own;
        assigned = holds.end.assigned;
        asked_here = λ s i a is. absurd (none_pending new x s i a is);
        parts =
            same_in_turn holds.end.own settings.handed_on All settings.window settings.keep answers new.count new.pending (held_in new) (restarted_held (held_in l.end) moment) (Restart moment ∷ holds.end.calls) held
            (subst (λ n. IsLeftByParts holds.end.own settings.handed_on All settings.window settings.keep answers n new.pending (restarted_held (held_in l.end) moment) (Restart moment ∷ holds.end.calls)) (sym x.count)
            (subst (λ (p : map.FinMap request_key_cmp PendingCommand). IsLeftByParts holds.end.own settings.handed_on All settings.window settings.keep answers l.end.count p (restarted_held (held_in l.end) moment) (Restart moment ∷ holds.end.calls)) (sym x.idle)
            (restarted_in_turn laws.begins holds.end.own settings.handed_on All settings.window settings.keep answers l.end.count l.end.pending (held_in l.end) holds.end.calls moment holds.end.parts)));
        handed_on = x.settings.handed_on ∙ holds.end.handed_on;
        events = ap (λ es. Restarted moment ∷ es) holds.end.events;
        listed = holds.end.listed;
      };
      as_scheduled = down_scheduled settings answers l _ before moment steps refl later holds.as_scheduled;
    }

    -- ---- it gets another endpoint ID
    assigns_holds : (eid : ℕ) (new : EndpointView) → IsEid eid → IsHeld (held_in new) (assigned_held (held_in l.end) moment eid) → HasForgotten new l.end → Holds settings answers (after settings answers l (Assigns moment eid new)) moment (step_at moment actions.Restart ∷ steps)
    assigns_holds eid new ranges held x = record {
      known = known_done settings answers l moment actions.Restart (after settings answers l (Assigns moment eid new)) refl refl refl refl (λ s i a is. absurd (none_pending new x s i a is)) holds.known.fine holds.known;
      end = record {
        calls = Assigned moment holds.end.own ∷ holds.end.calls;
        own = eid;
        assigned = ranges;
        asked_here = λ s i a is. absurd (none_pending new x s i a is);
        parts =
            same_in_turn eid settings.handed_on All settings.window settings.keep answers new.count new.pending (held_in new) (assigned_held (held_in l.end) moment eid) (Assigned moment holds.end.own ∷ holds.end.calls) held
            (subst (λ n. IsLeftByParts eid settings.handed_on All settings.window settings.keep answers n new.pending (assigned_held (held_in l.end) moment eid) (Assigned moment holds.end.own ∷ holds.end.calls)) (sym x.count)
            (subst (λ (p : map.FinMap request_key_cmp PendingCommand). IsLeftByParts eid settings.handed_on All settings.window settings.keep answers l.end.count p (assigned_held (held_in l.end) moment eid) (Assigned moment holds.end.own ∷ holds.end.calls)) (sym x.idle)
            (assigned_in_turn laws.begins holds.end.own settings.handed_on All settings.window settings.keep answers l.end.count l.end.pending (held_in l.end) holds.end.calls moment eid holds.end.parts)));
        handed_on = x.settings.handed_on ∙ holds.end.handed_on;
        events = cond-false (holds.end.own == NULL_EID) _ _ had_one ∙ ap (λ es. Restarted moment ∷ es) holds.end.events;
        listed = holds.end.listed;
      };
      as_scheduled = down_scheduled settings answers l _ before moment steps refl later holds.as_scheduled;
    }
      where
        had_one : (holds.end.own == NULL_EID) ≡ false
        had_one = ne_eqb holds.end.own NULL_EID (λ e. let y = holds.end.assigned.0 in omega (arith, y, e))

    -- ---- a packet of an answer comes to its requester
    module _ (sound : IsSoundLink settings answers l) where
      abbrev w : World
      w = world (setting settings answers) steps

      timely : IsTimelyLog ℕ settings.window settings.keep settings.pace.lifetime log
      timely =
          subst (λ (v : World). IsTimelyLog ℕ settings.window settings.keep settings.pace.lifetime v.log) (sym holds.as_scheduled.same)
          (paced_log_is_timely (setting settings answers) laws.lower steps (schedule_of settings answers l before steps sound holds.as_scheduled))

      given_now : (k : ℕ) (place : List Happening) → first ℕ settings.keep log k ≡ Some place → given (device settings.handed_on answers) settings.window settings.keep 0 log k ≡ Some (reply_to settings answers log k)
      given_now k place e =
          given_is_the_reply (device settings.handed_on answers) settings.window settings.keep settings.pace.lifetime 0 log k timely
          ∙ ap (option_map (λ (p : List Happening). reply_to settings answers log k)) e

      reply_sent : (k j : ℕ) (bytes : List ℕ) → packet_in (l.sent k) j ≡ Some bytes → reply_packet (setting settings answers) l.world k j ≡ Some bytes
      reply_sent k j bytes is = go (l.sent k) refl is
        where
          go : (o : Option (List (List ℕ))) → l.sent k ≡ o → packet_in o j ≡ Some bytes → reply_packet (setting settings answers) l.world k j ≡ Some bytes
          go None e none = absurd (cc)
          go (Some packets) e its =
              let x = holds.known.sent k packets e in
              (λ i. packet_of (setting settings answers) (x.asked i) (given_now k x.place x.came i) j)
              ∙ sym (ap (λ ps. slice_get ps j) x.is) ∙ its

      busy_sent : (k : ℕ) (bytes : List ℕ) → packet_in (l.not_ready k) 0 ≡ Some bytes → busy_packet (setting settings answers) l.world k ≡ Some bytes
      busy_sent k bytes is = go (l.not_ready k) refl is
        where
          go : (o : Option (List (List ℕ))) → l.not_ready k ≡ o → packet_in o 0 ≡ Some bytes → busy_packet (setting settings answers) l.world k ≡ Some bytes
          go None e none = absurd (cc)
          go (Some packets) e its =
              let x = holds.known.not_ready k packets e in
              (λ i. busy_from (setting settings answers) (x.asked i) (x.busy i))
              ∙ sym (ap (λ ps. slice_get ps 0) x.is) ∙ its

      -- none comes
      none_comes : (k : ℕ) → Holds settings answers (record l { world = l.world }) moment steps
      none_comes k = record {
        known = record { sent = holds.known.sent; not_ready = holds.known.not_ready; pending = holds.known.pending; fine = holds.known.fine };
        end = record { calls = holds.end.calls; own = holds.end.own; assigned = holds.end.assigned; parts = holds.end.parts; asked_here = holds.end.asked_here; handed_on = holds.end.handed_on; events = holds.end.events; listed = holds.end.listed };
        as_scheduled = stays_scheduled settings answers l _ before moment steps refl later holds.as_scheduled;
      }

      -- one comes
      one_comes : (k : ℕ) (bytes : List ℕ) (action : Action)
          → handed (setting settings answers) l.world moment (source_of (asked_at log k)) (Some bytes) ≡ world (setting settings answers) (step_at moment action ∷ steps)
          → IsTimelyAction (setting settings answers) w moment action → IsOfKind action
          → Holds settings answers (record l { world = handed (setting settings answers) l.world moment (source_of (asked_at log k)) (Some bytes) }) moment (step_at moment action ∷ steps)
      one_comes k bytes action same in_time is_of_kind = record {
        known = record { sent = holds.known.sent; not_ready = holds.known.not_ready; pending = holds.known.pending; fine = holds.known.fine };
        end = record { calls = holds.end.calls; own = holds.end.own; assigned = holds.end.assigned; parts = holds.end.parts; asked_here = holds.end.asked_here; handed_on = holds.end.handed_on; events = holds.end.events; listed = holds.end.listed };
        as_scheduled = record {
          same = same;
          last = omega arith;
          log_last = let y = holds.as_scheduled.log_last in omega (arith, y, later);
          order = (let y = holds.as_scheduled.last in omega (arith, y, later), holds.as_scheduled.order);
          asks = (is_of_kind, holds.as_scheduled.asks);
          timely = (in_time, holds.as_scheduled.timely);
          fit = holds.as_scheduled.fit;
        };
      }

      delivers_holds : (j k : ℕ) → ((bytes : List ℕ) → packet_in (l.sent k) j ≡ Some bytes → TagIsOwn (setting settings answers) l.world k) → Scheduled (after settings answers l (Delivers moment j k)) moment
      delivers_holds j k own = go (packet_in (l.sent k) j) refl
        where
          go : (o : Option (List ℕ)) → packet_in (l.sent k) j ≡ o → Scheduled (record l { world = handed (setting settings answers) l.world moment (source_of (asked_at log k)) o }) moment
          go None e = (steps, none_comes k)
          go (Some bytes) e = (
            step_at moment (actions.Reply j k) ∷ steps,
            one_comes k bytes (actions.Reply j k)
                (ap (handed (setting settings answers) l.world moment (source_of (asked_at log k))) (sym (reply_sent k j bytes e))
                ∙ ap (λ (v : World). handed (setting settings answers) v moment (source_of (asked_at v.log k)) (reply_packet (setting settings answers) v k j)) holds.as_scheduled.same)
                (λ other is. subst (λ (v : World). TagIsOwn (setting settings answers) v k) holds.as_scheduled.same (own bytes e))
                tt,
          )

      not_ready_holds : (k : ℕ) → ((bytes : List ℕ) → packet_in (l.not_ready k) 0 ≡ Some bytes → TagIsOwn (setting settings answers) l.world k) → Scheduled (after settings answers l (DeliversNotReady moment k)) moment
      not_ready_holds k own = go (packet_in (l.not_ready k) 0) refl
        where
          go : (o : Option (List ℕ)) → packet_in (l.not_ready k) 0 ≡ o → Scheduled (record l { world = handed (setting settings answers) l.world moment (source_of (asked_at log k)) o }) moment
          go None e = (steps, none_comes k)
          go (Some bytes) e = (
            step_at moment (actions.Busy k) ∷ steps,
            one_comes k bytes (actions.Busy k)
                (ap (handed (setting settings answers) l.world moment (source_of (asked_at log k))) (sym (busy_sent k bytes e))
                ∙ ap (λ (v : World). handed (setting settings answers) v moment (source_of (asked_at v.log k)) (busy_packet (setting settings answers) v k)) holds.as_scheduled.same)
                (λ other is. subst (λ (v : World). TagIsOwn (setting settings answers) v k) holds.as_scheduled.same (own bytes e))
                tt,
          )

  -- ---- from the first step on
  module _ (laws : Laws) (keeping : ResponderSettings) (limits : Bounds) (most : ℕ) (first_end : EndpointView) (first_is : IsFirst settings keeping limits most first_end) where
    abbrev at_link : List LinkStep → Link
    at_link steps = link settings answers first_end steps

    busy_is : (policy : RestartPolicy) → policy ≡ All → busy_with settings.handed_on policy ≡ All
    busy_is All e = refl
    busy_is (Sets other) e = absurd (cc)

    first_holds : IsEid settings.eid → Holds settings answers (at_link []) 0 []
    first_holds device = record {
      known = record {
        sent = λ k packets is. absurd (cc);
        not_ready = λ k packets is. absurd (cc);
        pending = λ s i a is. absurd (let none : map.get first_end.pending (request_key s i) ≡ None = ap (λ (p : map.FinMap request_key_cmp PendingCommand). map.get p (request_key s i)) first_is.new.idle ∙ map.get-empty request_key_cmp (request_key s i) in let wrong : None ≡ Some a = sym none ∙ is in cc);
        fine = λ k r is. absurd (cc);
      };
      end = record {
        calls = [];
        own = settings.eid;
        assigned = device;
        asked_here = λ s i a is. refl;
        parts =
            same_in_turn settings.eid settings.handed_on All settings.window settings.keep answers first_end.count first_end.pending (held_in first_end) (held_at_first settings.eid All settings.window settings.keep tt) []
            (subst (λ b. IsHeld (held_in first_end) (held_at_first settings.eid b settings.window settings.keep tt)) (busy_is keeping.busy first_is.busy)
            (subst (λ n. IsHeld (held_in first_end) (held_at_first settings.eid (busy_with settings.handed_on keeping.busy) n settings.keep tt)) first_is.window
            (subst (λ n. IsHeld (held_in first_end) (held_at_first settings.eid (busy_with settings.handed_on keeping.busy) keeping.window n tt)) first_is.keep first_is.new.held)))
            (subst (λ n. IsLeftByParts settings.eid settings.handed_on All settings.window settings.keep answers n first_end.pending (held_at_first settings.eid All settings.window settings.keep tt) []) (sym first_is.new.count)
            (subst (λ (p : map.FinMap request_key_cmp PendingCommand). IsLeftByParts settings.eid settings.handed_on All settings.window settings.keep answers 0 p (held_at_first settings.eid All settings.window settings.keep tt) []) (sym first_is.new.idle)
            (new_in_turn laws.begins settings.eid settings.handed_on All settings.window settings.keep answers)));
        handed_on = first_is.new.handed_on;
        events = refl;
        listed = refl;
      };
      as_scheduled = record { same = refl; last = omega arith; log_last = omega arith; order = tt; asks = tt; timely = tt; fit = tt };
    }

    one_more : (step : LinkStep) (past : List LinkStep) → Scheduled (at_link past) (now past) → IsStep settings answers (at_link past) step → IsTimelyStep settings answers (at_link past) step → now past ≤ moment_of step
        → IsSoundLink settings answers (at_link past) → IsSoundLink settings answers (at_link (step ∷ past)) → Scheduled (at_link (step ∷ past)) (moment_of step)
    one_more (Opens moment e ask) past h is in_time later before after_it = (step_at moment (actions.Open e ask) ∷ h.0, opens_holds laws (at_link past) (now past) h.0 h.1 moment later e ask is)
    one_more (Ticks moment e) past h is in_time later before after_it = (step_at moment (actions.Tick e) ∷ h.0, ticks_holds laws (at_link past) (now past) h.0 h.1 moment later e)
    one_more (Receives moment k new step) past h is in_time later before after_it = (step_at moment (actions.Request k) ∷ h.0, received_holds settings answers laws (at_link past) (now past) h.0 h.1 before moment k later is.0 is.1 in_time is.2 new step is.3 after_it)
    one_more (Passes moment bytes new step) past h is in_time later before after_it = (h.0, passes_holds settings answers laws (at_link past) (now past) h.0 h.1 moment later bytes new step is.0 is.1)
    one_more (Refuses moment new) past h is in_time later before after_it = (h.0, refuses_holds laws (at_link past) (now past) h.0 h.1 moment later new is)
    one_more (Answers moment handle new outcome) past h is in_time later before after_it = (h.0, answered_holds laws (at_link past) (now past) h.0 h.1 moment later handle new outcome is)
    one_more (Delivers moment j k) past h is in_time later before after_it = delivers_holds laws (at_link past) (now past) h.0 h.1 moment later before j k (λ bytes e. (in_time bytes e).own)
    one_more (DeliversNotReady moment k) past h is in_time later before after_it = not_ready_holds laws (at_link past) (now past) h.0 h.1 moment later before k (λ bytes e. (in_time bytes e).own)
    one_more (Restarts moment new) past h is in_time later before after_it = (step_at moment actions.Restart ∷ h.0, restarts_holds laws (at_link past) (now past) h.0 h.1 moment later new is.0 is.1)
    one_more (Assigns moment eid new) past h is in_time later before after_it = (step_at moment actions.Restart ∷ h.0, assigns_holds laws (at_link past) (now past) h.0 h.1 moment later eid new is.0 is.1 is.2)

    all_hold : (steps : List LinkStep) → IsRun settings answers first_end steps → NeverGoesBack steps → AreInTime settings answers first_end steps → IsSoundLink settings answers (at_link steps) → Scheduled (at_link steps) (now steps)
    all_hold [] run order in_time sound = ([], first_holds sound.device)
    all_hold (step ∷ past) run order in_time sound =
        let before = sound_before (at_link past) step sound in
        one_more step past (all_hold past run.1 order.1 in_time.1 before) run.0 in_time.0 order.0 before sound

    -- ---- what holds of both ends
    module _ (steps : List LinkStep) (t : IsTimelyLink settings answers first_end steps) where
      abbrev l : Link
      l = at_link steps

      scheduled : Scheduled l (now steps)
      scheduled = all_hold steps t.run t.order t.in_time t.sound

      holds : Holds settings answers l (now steps) scheduled.0
      holds = scheduled.1

      its_answer : (k : ℕ) (r : Asked) (place : List Happening) → asked_at l.world.log k ≡ Some r → first ℕ settings.keep l.world.log k ≡ Some place → over_time.IsItsAnswer settings.handed_on answers l k r (reply_to settings answers l.world.log k)
      its_answer k r place e f = record {
        given = λ n is. given_is settings.handed_on answers settings.keep l.world.log n k r e (ap (λ xs. slice_get xs n) (sym holds.end.listed) ∙ is);
        refused = λ none. refused_is settings.handed_on answers settings.keep l.world.log k r place e f none;
      }

      one_request : (k : ℕ) (r q : Asked) → asked_at l.world.log k ≡ Some r → asked_at l.world.log k ≡ Some q → q ≡ r
      one_request k r q e f = let both : Some q ≡ Some r = sym f ∙ e in cc

      pub link_holds : HoldsOverTime settings answers l
      link_holds = record {
        handed_out = holds.end.listed;
        once = λ i n k first_place second_place.
            let x = numbered settings.handed_on answers settings.keep l.world.log i k (ap (λ xs. slice_get xs i) (sym holds.end.listed) ∙ first_place) in
            let y = numbered settings.handed_on answers settings.keep l.world.log n k (ap (λ xs. slice_get xs n) (sym holds.end.listed) ∙ second_place) in
            let both : Some x.0 ≡ Some y.0 = sym x.1 ∙ y.1 in
            let same : x.0 ≡ y.0 = cc in
            sym x.2 ∙ ap (count_of settings.handed_on answers settings.keep) same ∙ y.2;
        sent = λ k r packets e is.
            let x = holds.known.sent k packets is in
            (reply_to settings answers l.world.log k, x.is ∙ ap (λ q. answer_packets settings.eid q (reply_to settings answers l.world.log k)) (one_request k r x.r e x.asked), its_answer k r x.place e x.came);
        taken = λ k r message e is.
            let same = holds.as_scheduled.same in
            let once = answered_was_performed (setting settings answers) laws.lower scheduled.0 k r message (schedule_of settings answers l (now steps) scheduled.0 t.sound holds.as_scheduled)
            (ap (λ (w : World). asked_at w.log k) (sym same) ∙ e)
            (ap (λ (w : World). ((requests_of (setting settings answers) w r.source).each r.own).course.progress) (sym same) ∙ is) in
            let came : first ℕ settings.keep l.world.log k ≡ Some once.place = ap (λ (w : World). first ℕ settings.keep w.log k) same ∙ once.arrived in
            let message_is : message ≡ reply_to settings answers l.world.log k = once.answer ∙ sym (reply_at settings.handed_on answers settings.keep l.world.log k r once.place e came) in
            (ap is_some came, subst (over_time.IsItsAnswer settings.handed_on answers l k r) (sym message_is) (its_answer k r once.place e came));
      }

      pub is_scheduled : (scheduled : List Step) × (l.world ≡ world (over_time_ends settings answers) scheduled) × IsTimelySchedule (over_time_ends settings answers) scheduled
      is_scheduled = (scheduled.0, holds.as_scheduled.same, schedule_of settings answers l (now steps) scheduled.0 t.sound holds.as_scheduled)

pub links_are_schedules : Laws → LinksAreSchedules
links_are_schedules laws settings answers keeping limits most first_end steps first_is t = is_scheduled settings answers laws keeping limits most first_end first_is steps t

pub holds_over_time : Laws → BothEndsOverTime
holds_over_time laws settings answers keeping limits most first_end steps first_is t = link_holds settings answers laws keeping limits most first_end first_is steps t
