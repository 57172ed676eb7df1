-- A restart is one more call of the responder.
use Rattle.std.proofs.Common.{[], sym, subst}
use Rattle.pldm_responder.specs.Performing.{rules_of}
use Rattle.mctp_schedule.specs.HeldRuns.{held_by}
use Rattle.mctp_schedule.specs.Running.{setting_of}
use Rattle.mctp_schedule.proofs.AfterReadingOrRestart.{restarted_runs}
use Rattle.mctp_schedule.proofs.both_ends.Ends.restart.Goals as goal

pub returns : goal.returns
returns g c = record {
  goes_on = λ terms past running may.
      let setting = setting_of (rules_of g.P.Platform.answer g.P.Platform.after g.P.Platform.sensed) terms in
      let entered = c.in_ok-enter.ensures in
      restarted_runs setting past (held_by c.args.self.now) c.restart.new.self c.enter.new.self running c.args.now may.later
      c.looks_back.ensures.restarted c.looks_back.ensures.same c.restart.ensures.held
      (record {
        entries = entered.entries;
        requests = entered.requests;
        traffic = entered.traffic;
        order = entered.order;
        timely = entered.timely;
      });
  performs = λ terms past running may.
      subst (λ p. g.P.Platform.performed c.args.self.now.responder.platform [] p) (sym c.restart.ensures.platform)
      (g.met.P.Platform.none_performed c.args.self.now.responder.platform);
}
