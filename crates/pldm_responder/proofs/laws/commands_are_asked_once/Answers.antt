use Rattle.pldm_responder.specs.Performing.{rules_of}
use Rattle.pldm_responder.proofs.AskedOnce.{asked_apart, commands_look_back, sets_after_busy_time, tasks_look_back}
use Rattle.pldm_responder.proofs.laws.commands_are_asked_once.Goals as goal

pub returns : goal.returns
returns g c = record {
  looks_back = commands_look_back (rules_of g.P.Platform.answer g.P.Platform.after g.P.Platform.sensed) c.looks_back.ensures.feed;
  tasks = tasks_look_back (rules_of g.P.Platform.answer g.P.Platform.after g.P.Platform.sensed) c.looks_back.ensures.feed;
  apart = asked_apart;
  settings = sets_after_busy_time;
}
