-- A reading is one more call of the responder.
use Rattle.std.proofs.Common.{rules, ◌≡◌, ◌∷◌, [], ap, subst, ◌++◌, ◌∙◌, w64, to_z, of_z}
use Rattle.std.proofs.lemmas.Int.{to_z-of_z}
use Rattle.pldm_wire.specs.declared.restart_policy.RestartPolicy.TheVariants.{All}
use Rattle.pldm_responder.specs.ResponderStates.{IsHeld}
use Rattle.pldm_responder.specs.ResponderViews.{held_of}
use Rattle.pldm_responder.specs.Steps.{sensed_held}
use Rattle.pldm_responder.specs.Performing.{performed, rules_of}
use Rattle.mctp_schedule.specs.HeldRuns.{held_by}
use Rattle.mctp_schedule.specs.Running.{setting_of}
use Rattle.mctp_schedule.specs.declared.entry.Entry.TheVariants.{Sensed}
use Rattle.pldm_platform.specs.Changes.{made_of}
use Rattle.mctp_schedule.proofs.AfterReadingOrRestart.{sensed_runs}
use Rattle.mctp_schedule.proofs.both_ends.Ends.sense.Goals as goal

pub returns : goal.returns
returns g c = record {
  goes_on = λ terms past running may.
      let device = rules_of g.P.Platform.answer g.P.Platform.after g.P.Platform.sensed in
      let setting = setting_of device terms in
      let entered = c.in_ok-enter.ensures in
      let same : to_z w64 (of_z w64 c.args.value) ≡ c.args.value = search (rules, to_z-of_z) in
      let state = running.device.left.state ∙ ap (performed device All terms.window terms.keep terms.start) running.device.events in
      sensed_runs setting past (held_by c.args.self.now) c.set_reading-result.new.self c.enter.new.self running c.args.now may.later c.args.sensor c.args.value
      c.looks_back.ensures.sensed c.looks_back.ensures.same (subst (λ z. IsHeld (held_of c.set_reading-result.new.self) (sensed_held device (held_of c.args.self.now.responder) c.args.sensor z)) same c.set_reading-result.ensures.held)
      (record {
        entries = entered.entries ∙ ap (λ r. c.args.self.now.journal.entries ++ Sensed r ∷ []) (c.set_reading-result.ensures.answer ∙ ap (λ z. made_of (λ _. tt) (device.sensed (held_of c.args.self.now.responder).state c.args.sensor z)) same ∙ ap (λ s. made_of (λ _. tt) (device.sensed s c.args.sensor c.args.value)) state);
        requests = entered.requests;
        traffic = entered.traffic;
        order = entered.order;
        timely = entered.timely;
      });
  performs = λ terms past running may. c.set_reading-result.ensures.performed;
}
