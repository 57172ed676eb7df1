-- Each action has a method of its own.
use Rattle.std.proofs.Common.{subst}
use Rattle.pldm_responder.specs.Performing.{rules_of}
use Rattle.mctp_schedule.specs.HeldRuns.{held_by}
use Rattle.mctp_schedule.specs.Running.{CanGoOn, at}
use Rattle.schedule_text.specs.StepColumns.{borrowed_action}
use Rattle.mctp_schedule.specs.Actions.{as_action}
use Rattle.mctp_schedule.proofs.both_ends.Ends.run_step.Goals as goal

pub open-requires : goal.open-requires
open-requires g c =
    subst (λ a. CanGoOn (rules_of g.P.Platform.answer g.P.Platform.after g.P.Platform.sensed) (held_by c.args.self.now) (at c.args.step.now.moment (as_action (borrowed_action a)))) c.in-Open.is c.requires

pub tick-requires : goal.tick-requires
tick-requires g c =
    subst (λ a. CanGoOn (rules_of g.P.Platform.answer g.P.Platform.after g.P.Platform.sensed) (held_by c.args.self.now) (at c.args.step.now.moment (as_action (borrowed_action a)))) c.in-Tick.is c.requires
