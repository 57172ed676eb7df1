-- Step by step, until there is none.
use Rattle.std.proofs.Common.{List, [], ◌∷◌, ◌++◌, refl, sym, ap, subst, ◌∙◌, append_assoc, append-nil}
use Rattle.std.specs.Prelude.{reverse}
use Rattle.pldm_wire.specs.declared.restart_policy.RestartPolicy.TheVariants.{All}
use Rattle.pldm_responder.specs.Performing.{rules_of}
use Rattle.mctp_schedule.specs.Entries.{entries, requests_after}
use Rattle.mctp_schedule.specs.FirstArrivals.{order}
use Rattle.mctp_schedule.specs.Logs.{reached}
use Rattle.pldm_responder.specs.Performing.{performed}
use Rattle.pldm_responder.specs.ResponderViews.{held_of}
use Rattle.mctp_schedule.specs.Headline.{Headline}
use Rattle.mctp_schedule.specs.HeldRuns.{held_by}
use Rattle.mctp_schedule.specs.Places.{BeginEach}
use Rattle.mctp_schedule.specs.Running.{IsRunning, RunSettings}
use Rattle.mctp_schedule.specs.PerformedCommands.{commands_at_step, commands_performed}
use Rattle.mctp_schedule.specs.Runs.{newest_first, setting_of_run}
use Rattle.mctp_schedule.specs.Worlds.{NeverWentBack, is_timely, world}
use Rattle.schedule_text.specs.StepColumns.{borrowed_step}
use Rattle.mctp_schedule.specs.Actions.{as_action, as_steps}
use Rattle.pldm_wire.specs.declared.command.Command.{Command}
use Rattle.mctp_schedule.proofs.CommandsPerformed.{commands_added}
use Rattle.mctp_schedule.proofs.HeadlineHolds.{Halves, run_is_headline}
use Rattle.mctp_schedule.proofs.SpelledAsks.{spelled_asks}
use Rattle.mctp_schedule.proofs.ReportedRequests.{requests_are}
use Rattle.mctp_schedule.proofs.RunsBegin.{begins, done_more, may_come}
use Rattle.mctp_schedule.proofs.both_ends.run.Goals as goal

pub loop-step-init : goal.loop-step-init
loop-step-init g c =
    let setting = setting_of_run (rules_of g.P.Platform.answer g.P.Platform.after g.P.Platform.sensed) (g.P.Platform.state c.args.setup.device) c.args.setup.eid c.args.setup.keep c.args.setup.window c.args.schedule.now in
    let empty = c.in_ok-new.ensures in
    let begun = c.in_ok-begin_requesters.ensures.begin in
    record {
      done = [];
      all = sym (c.into_iter-step-iterator.ensures.into_iter_gives ∙ c.iter-step-items.ensures ∙ c.steps-steps.ensures.value);
      in_order = tt;
      runs = begins setting
          (record {
            keep = c.args.setup.keep;
            window = c.args.setup.window;
            responder = c.begin_device.result;
            places = c.in_ok-begin_requesters.field-0.items;
            journal = c.in_ok-new.field-0;
            arrivals = c.new-2.result;
          })
          refl refl refl c.get-range.ensures.range c.looks_back.ensures.new c.looks_back.ensures.same c.looks_back-2.ensures.new c.looks_back-2.ensures.same c.begin_device.ensures.held
          (subst (λ lines. BeginEach c.args.setup.eid c.args.setup.keep lines c.in_ok-begin_requesters.field-0.items) c.requesters.ensures.value begun)
          (record { entries = empty.entries; requests = empty.requests; traffic = empty.traffic; order = empty.order; timely = empty.timely })
          c.new-2.ensures;
      performed = subst (λ p. g.P.Platform.performed c.args.setup.device [] p) (sym c.begin_device.ensures.platform) (g.met.P.Platform.none_performed c.args.setup.device);
    }

pub run_step-requires : goal.run_step-requires
run_step-requires g c =
    let schedule = c.args.schedule.now in
    let terms : RunSettings g.row.P-State.Denot = record { start = g.P.Platform.state c.args.setup.device; eid = c.args.setup.eid; keep = c.args.setup.keep; window = c.args.setup.window; requesters = schedule.requesters } in
    let i = c.loop-step.invariant in
    let step = borrowed_step c.in-Some.step in
    let valid = c.steps-steps.ensures.valid in
    let all = i.all ∙ ap (λ rest. i.done ++ rest) c.in-Some.ensures.steps in
    (terms, as_steps (reverse i.done), i.runs, may_come schedule.requesters schedule.steps i.done c.next.new.self step all valid.in_order valid.known)

pub loop-step-preserved : goal.loop-step-preserved
loop-step-preserved g c =
    let schedule = c.args.schedule.now in
    let setting = setting_of_run (rules_of g.P.Platform.answer g.P.Platform.after g.P.Platform.sensed) (g.P.Platform.state c.args.setup.device) c.args.setup.eid c.args.setup.keep c.args.setup.window schedule in
    let terms : RunSettings g.row.P-State.Denot = record { start = g.P.Platform.state c.args.setup.device; eid = c.args.setup.eid; keep = c.args.setup.keep; window = c.args.setup.window; requesters = schedule.requesters } in
    let i = c.loop-step.invariant in
    let step = borrowed_step c.in-Some.step in
    let valid = c.steps-steps.ensures.valid in
    let all = i.all ∙ ap (λ rest. i.done ++ rest) c.in-Some.ensures.steps in
    let may = may_come schedule.requesters schedule.steps i.done c.next.new.self step all valid.in_order valid.known in
    let runs = c.in_ok-run_step.ensures.goes_on terms (as_steps (reverse i.done)) i.runs may in
    let more = sym (done_more i.done step) in
    record {
      done = i.done ++ step ∷ [];
      all = all ∙ sym (append_assoc i.done (step ∷ []) c.next.new.self);
      in_order = subst NeverWentBack more (may.later, i.in_order);
      runs = subst (λ past. IsRunning setting past (held_by c.run_step.new.self)) more runs;
      performed = subst (λ past. g.P.Platform.performed c.args.setup.device (commands_performed g.row.P-State.Denot c.args.setup.window c.args.setup.keep (world setting past).log) c.run_step.new.self.responder.platform) more
          (subst (λ (cs : List Command). g.P.Platform.performed c.args.setup.device cs c.run_step.new.self.responder.platform) (sym (commands_added setting (world setting (as_steps (reverse i.done))) step.moment (as_action step.action)))
          (g.met.P.Platform.performed_in_turn c.args.setup.device c.loop-step.ends.responder.platform c.run_step.new.self.responder.platform
          (commands_performed g.row.P-State.Denot c.args.setup.window c.args.setup.keep (world setting (as_steps (reverse i.done))).log)
          (commands_at_step g.row.P-State.Denot c.args.setup.window c.args.setup.keep (world setting (as_steps (reverse i.done))).log step.moment (as_action step.action))
          i.performed (c.in_ok-run_step.ensures.performs terms (as_steps (reverse i.done)) i.runs may)));
    }

pub returns-clause-report : goal.returns-clause-report
returns-clause-report g c =
    let schedule = c.args.schedule.now in
    let setting = setting_of_run (rules_of g.P.Platform.answer g.P.Platform.after g.P.Platform.sensed) (g.P.Platform.state c.args.setup.device) c.args.setup.eid c.args.setup.keep c.args.setup.window schedule in
    let i = c.loop-step.invariant in
    let all = ap (λ steps. as_steps (reverse steps)) (sym (i.all ∙ ap (λ rest. i.done ++ rest) c.in-None.ensures.steps.0 ∙ append-nil i.done)) in
    let past = as_steps (reverse i.done) in
    let runs = c.loop-step.invariant.runs in
    let journal = c.loop-step.ends.journal in
    let both = c.requesters_take_the_one_reply.ensures in
    let once = c.performs_once.ensures in
    let halves : Halves setting = record {
      log = c.paced_logs_are_timely.ensures setting;
      tested = c.logs_are_timely.ensures.tested setting;
      state = once.state setting.device;
      delivery = once.delivery setting.device;
      order = c.fresh_deliveries_are_first.ensures.order;
      fresh = c.fresh_deliveries_are_first.ensures.fresh;
      reply = both.reply setting;
      busy = both.busy setting;
      answered = both.answered setting;
      performed = both.performed setting;
    } in
    let has_performed = λ (cs : List Command). g.P.Platform.performed c.args.setup.device cs c.into_platform-device.result in
    let given = subst (λ p. g.P.Platform.performed c.args.setup.device (commands_performed g.row.P-State.Denot c.args.setup.window c.args.setup.keep (world setting past).log) p) (sym c.into_platform-device.ensures.value) c.loop-step.invariant.performed in
    record {
      each_step = runs.entries ∙ ap (λ steps. entries setting steps) all;
      each_request = requests_are setting (world setting past) journal.requests.items runs.requests ∙ ap (λ steps. requests_after setting (world setting steps)) all;
      in_order = runs.order ∙ ap (λ steps. order g.row.P-State.Denot setting.window setting.keep (world setting steps).log) all;
      state = c.into_platform-device.ensures.state ∙ runs.device.left.state ∙ ap (performed setting.device All setting.window setting.keep setting.start) runs.device.events ∙ ap (λ steps. performed setting.device All setting.window setting.keep setting.start (reached (world setting steps).log)) all;
      commands = subst (λ steps. has_performed (commands_performed g.row.P-State.Denot c.args.setup.window c.args.setup.keep (world setting steps).log)) all given;
      tested = runs.timely ∙ ap (λ steps. is_timely setting steps) all;
      headline = λ timely.
          subst (λ s. Headline setting (newest_first schedule) journal.entries journal.requests.items journal.order.items s has_performed) (sym c.into_platform-device.ensures.state)
          (subst (λ steps. Headline setting steps journal.entries journal.requests.items journal.order.items (held_of c.loop-step.ends.responder).state has_performed) all
          (run_is_headline setting past (held_by c.loop-step.ends) runs (spelled_asks (reverse i.done)) halves has_performed given c.loop-step.invariant.in_order timely));
    }
