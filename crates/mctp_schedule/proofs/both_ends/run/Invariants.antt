-- The ends hold what the steps so far lead to.
use Rattle.std.proofs.Common.{◌≡◌, List, ◌++◌}
use Rattle.std.specs.Prelude.{reverse}
use Rattle.pldm_responder.specs.Performing.{rules_of}
use Rattle.mctp_schedule.specs.PerformedCommands.{commands_performed}
use Rattle.mctp_schedule.specs.HeldRuns.{held_by}
use Rattle.mctp_schedule.specs.Running.{IsRunning}
use Rattle.mctp_schedule.specs.Runs.{setting_of_run}
use Rattle.mctp_schedule.specs.Worlds.{NeverWentBack, world}
use Rattle.mctp_schedule.specs.Actions.{as_steps}
use Rattle.schedule_text.specs.declared.step.Step.{Step}
use Rattle.mctp_schedule.proofs.both_ends.run.Given as goal

abbrev pub invariant-loop-step : goal.invariant-loop-step
invariant-loop-step g l = record {
  done : List Step;
  all : l.fn.schedule.steps ≡ done ++ l.step-iterator;
  in_order : NeverWentBack (as_steps (reverse done));
  runs : IsRunning (setting_of_run (rules_of g.P.Platform.answer g.P.Platform.after g.P.Platform.sensed) (g.P.Platform.state l.fn.setup.device) l.fn.setup.eid l.fn.setup.keep l.fn.setup.window l.fn.schedule)
      (as_steps (reverse done)) (held_by l.ends);
  performed : g.P.Platform.performed l.fn.setup.device
      (commands_performed g.row.P-State.Denot l.fn.setup.window l.fn.setup.keep
      (world (setting_of_run (rules_of g.P.Platform.answer g.P.Platform.after g.P.Platform.sensed) (g.P.Platform.state l.fn.setup.device) l.fn.setup.eid l.fn.setup.keep l.fn.setup.window l.fn.schedule)
      (as_steps (reverse done))).log)
      l.ends.responder.platform;
}
