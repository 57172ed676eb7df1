-- What a run reports of a timely schedule is the headline.
use Rattle.std.proofs.Common.{◌≡◌, ℕ, true, List, [], ◌∷◌, ◌++◌, Option, Some, None, refl, sym, ap, subst, ◌∙◌, inr, arith, ◌≢◌}
use Rattle.std.specs.Prelude.{option_map, slice_get}
use Rattle.mctp_packet.specs.Ids.{IsEid}
use Rattle.pldm_wire.specs.declared.restart_policy.RestartPolicy.TheVariants.{All}
use Rattle.pldm_platform.specs.Changes.{made_of}
use Rattle.pldm_responder.specs.Events.{is_busy}
use Rattle.pldm_responder.specs.Performing.{performed}
use Rattle.pldm_responder.specs.ResponderViews as responder_stations
use Rattle.pldm_wire.specs.declared.command.Command.{Command}
use Rattle.pldm_requester.specs.declared.pace.Pace.{Pace}
use Rattle.mctp_schedule.specs.DeviceHalf.{DeliveryIsExpected, FreshInOrderOfFirsts, FreshWhereFirst, StateIsOnce}
use Rattle.mctp_schedule.specs.Entries.{as_it_stands, delivery_entry, entries, entry_of, got_entry}
use Rattle.mctp_schedule.specs.FirstArrivals.{order}
use Rattle.mctp_schedule.specs.Headline.{Headline, delivery_owes, entries_expected, entry_owes}
use Rattle.mctp_schedule.specs.HeldRuns.{HeldRun}
use Rattle.mctp_schedule.specs.Laws.{PacedLogIsTimely, TimelyIsTested}
use Rattle.mctp_schedule.specs.Logs.{Asked, asked_at, reached}
use Rattle.mctp_schedule.specs.Timely.{IsTimelyLog}
use Rattle.mctp_schedule.specs.RequesterHalf.{AnsweredWasPerformed, AnsweredWhereTaken, BusyIsExpected, IsSound, IsTimelySchedule, ReplyIsExpected}
use Rattle.mctp_schedule.specs.PerformedCommands.{commands_performed}
use Rattle.mctp_schedule.specs.Requests.{Request as EndedRequest}
use Rattle.mctp_schedule.specs.Running.{IsRunning}
use Rattle.mctp_schedule.specs.Worlds.{NeverWentBack, BothEnds, world}
use Rattle.mctp_schedule.specs.declared.entry.Entry.TheVariants.{Delivered, Sensed}
use Rattle.mctp_schedule.specs.Actions.{Action, AreOfKinds, Step}
use Rattle.mctp_schedule.specs.Actions as actions
use Rattle.mctp_schedule.proofs.CommandsPerformed.{performed_once_each}
use Rattle.mctp_schedule.proofs.AnsweredWhereTaken.{sound_before}
use Rattle.mctp_schedule.proofs.RestedRequesters.{first_there, never_anew}

-- the laws of both halves
pub record Halves {S : Type 0} (setting : BothEnds S) : Type 0 where
  pub log : PacedLogIsTimely setting
  pub tested : TimelyIsTested setting
  pub state : StateIsOnce setting.device
  pub delivery : DeliveryIsExpected setting.device
  pub order : FreshInOrderOfFirsts S
  pub fresh : FreshWhereFirst S
  pub reply : ReplyIsExpected setting
  pub busy : BusyIsExpected setting
  pub answered : AnsweredWhereTaken setting
  pub performed : AnsweredWasPerformed setting

module _ {S : Type 0} (setting : BothEnds S) (laws : Halves setting) where
  log_of : (steps : List Step) → IsTimelySchedule setting steps → IsTimelyLog S setting.window setting.keep setting.pace.lifetime (world setting steps).log
  log_of steps s = laws.log steps s

  before : (step : Step) (past : List Step) → IsTimelySchedule setting (step ∷ past) → IsTimelySchedule setting past
  before step past s = record { order = s.order.1; timely = s.timely.1; sound = sound_before setting step past s.sound }

  delivery_is : (past : List Step) (moment k : ℕ) → IsTimelySchedule setting (record { moment = moment; action = actions.Request k } ∷ past) → (o : Option Asked) → asked_at (world setting past).log k ≡ o
      → delivery_entry setting (world setting past).log moment o ≡ delivery_owes setting past moment k o
  delivery_is past moment k s None is = refl
  delivery_is past moment k s (Some r) is =
      ap (Delivered (is_busy setting.keep (reached {S = S} (world setting past).log) moment))
      (laws.delivery setting.eid setting.window setting.keep setting.pace.lifetime setting.start (world setting past).log moment k r (log_of (record { moment = moment; action = actions.Request k } ∷ past) s) is)

  entry_is : (past : List Step) (moment : ℕ) (action : Action) → IsTimelySchedule setting (record { moment = moment; action = action } ∷ past) → entry_of setting (world setting past) moment action ≡ entry_owes setting past moment action
  entry_is past moment (actions.Open e ask) s = refl
  entry_is past moment (actions.Tick e) s = refl
  entry_is past moment actions.Restart s = refl
  entry_is past moment (actions.Request k) s = delivery_is past moment k s (asked_at (world setting past).log k) refl
  entry_is past moment (actions.Reply j k) s = ap got_entry (laws.reply past moment k j (before (record { moment = moment; action = actions.Reply j k }) past s) s.timely.0)
  entry_is past moment (actions.Busy k) s = ap got_entry (laws.busy past moment k (before (record { moment = moment; action = actions.Busy k }) past s) s.timely.0)
  entry_is past moment (actions.Sense id value) s =
      ap (λ state. Sensed (made_of (λ _. tt) (setting.device.sensed state id value)))
      (laws.state setting.window setting.keep setting.pace.lifetime setting.start (world setting past).log (log_of past (before (record { moment = moment; action = actions.Sense id value }) past s)))

  entries_are : (steps : List Step) → IsTimelySchedule setting steps → entries setting steps ≡ entries_expected setting steps
  entries_are [] s = refl
  entries_are (step ∷ past) s =
      ap (λ es. es ++ entry_of setting (world setting past) step.moment step.action ∷ []) (entries_are past (before step past s))
      ∙ ap (λ x. entries_expected setting past ++ x ∷ []) (entry_is past step.moment step.action s)

  pub headline_holds : (Performed : List Command → Type 0) (steps : List Step) (requests : List EndedRequest) → Performed (commands_performed S setting.window setting.keep (world setting steps).log) → IsTimelySchedule setting steps → ((k : ℕ) → slice_get requests k ≡ option_map (as_it_stands setting (world setting steps)) (asked_at (world setting steps).log k))
      → Headline setting steps (entries setting steps) requests (order S setting.window setting.keep (world setting steps).log) (performed setting.device All setting.window setting.keep setting.start (reached (world setting steps).log)) Performed
  headline_holds Performed steps requests given s each = record {
    each_step = entries_are steps s;
    each_request = λ k r is. record {
      progress = (as_it_stands setting (world setting steps) r).progress;
      reported = each k ∙ ap (option_map (as_it_stands setting (world setting steps))) is;
      stands = laws.answered steps k r s is;
      performed = λ message e. laws.performed steps k r message s is e;
    };
    performed_in_order = laws.order setting.window setting.keep setting.pace.lifetime (world setting steps).log (log_of steps s);
    performed_once = laws.state setting.window setting.keep setting.pace.lifetime setting.start (world setting steps).log (log_of steps s);
    each_command_once = subst Performed (performed_once_each laws.fresh setting.window setting.keep setting.pace.lifetime (world setting steps).log (log_of steps s)) given;
  }

-- ---- a run discharges the premises
module _ {P S : Type 0} (setting : BothEnds S) (past : List Step) (run : HeldRun P S) (running : IsRunning setting past run) (asks : AreOfKinds past) where
  is_sound : IsSound setting past
  is_sound = record {
    device = running.device.endpoint;
    sources = λ k r is.
        let s = (running.sides r.source (running.opened k r is).source).2 in
        let first = first_there r.source s.endpoint in
        (subst IsEid (sym first) s.endpoint, subst (λ d. d ≢ setting.eid) (sym first) s.other);
    fit = running.fit;
    pace = record {
      within = let e = ap (λ (p : Pace). p.lifetime) running.pace in omega (arith, e);
      window = inr (ap (λ (p : Pace). p.lifetime) running.pace);
    };
    asks = asks;
    rested = never_anew setting.keep (world setting past).log (λ k r is. let s = (running.sides r.source (running.opened k r is).source).2.endpoint.1 in omega (arith, s));
  }

  pub run_is_headline : Halves setting → (Performed : List Command → Type 0) → Performed (commands_performed S setting.window setting.keep (world setting past).log) → NeverWentBack past → run.journal.timely ≡ true
      → Headline setting past run.journal.entries run.journal.requests.items run.journal.order.items (responder_stations.held_of run.responder).state Performed
  run_is_headline laws Performed given in_order timely =
      let schedule : IsTimelySchedule setting past = record { order = in_order; timely = (laws.tested past).0 (sym running.timely ∙ timely); sound = is_sound } in
      let state = running.device.left.state ∙ ap (performed setting.device All setting.window setting.keep setting.start) running.device.events in
      subst (λ s. Headline setting past run.journal.entries run.journal.requests.items run.journal.order.items s Performed) (sym state)
      (subst (λ os. Headline setting past run.journal.entries run.journal.requests.items os (performed setting.device All setting.window setting.keep setting.start (reached (world setting past).log)) Performed) (sym running.order)
      (subst (λ es. Headline setting past es run.journal.requests.items (order S setting.window setting.keep (world setting past).log) (performed setting.device All setting.window setting.keep setting.start (reached (world setting past).log)) Performed) (sym running.entries)
      (headline_holds setting laws Performed past run.journal.requests.items given schedule running.requests)))
