-- The run is that over all that the reader gives.
use Rattle.std.proofs.Common.{◌≡◌}
use Rattle.mctpctl_engines.specs.AnswerText.{run_of, called_run}
use Rattle.mctpctl_engines.specs.DescribedLines.{described_writes}
use Rattle.mctpctl_engines.specs.HeldRuns.{held_run, held_step}
use Rattle.mctpctl_engines.specs.LinePieces.{run_gives}
use Rattle.mctpctl_engines.specs.LineTasks.{task_writes}
use Rattle.mctpctl_engines.specs.Pieces.{Gives}
use Rattle.mctpctl_engines.proofs.AnswersOfRuns.{first_gives}
use Rattle.mctpctl_engines.proofs.LookingBack.{run_looks_back}
use Rattle.mctpctl_engines.proofs.RunsToEnd.{same_text, same_read, same_front}
use Rattle.pldm_responder.specs.ResponderViews.{held_of}
use Rattle.mctpctl_engines.proofs.answer_run.answer_all.Goals as goal

pub returns-clause-text : goal.returns-clause-text
returns-clause-text g c =
    let f : Gives = run_gives (described_writes held_run (task_writes held_step held_of)) c.new-run.result in
    let is : f ≡ run_of called_run = first_gives held_run (task_writes held_step held_of) c.new-run.result c.new-lines.result (run_of called_run) c.new-run.ensures.taker c.new-run.ensures.kept c.new-lines.ensures (run_looks_back c.looks_back.ensures.received c.looks_back.ensures.new) in
    same_text f (run_of called_run) _ _ _ _ is c.run_to_end.ensures.text

pub returns-clause-at_read : goal.returns-clause-at_read
returns-clause-at_read g c = λ read.
    let f : Gives = run_gives (described_writes held_run (task_writes held_step held_of)) c.new-run.result in
    let is : f ≡ run_of called_run = first_gives held_run (task_writes held_step held_of) c.new-run.result c.new-lines.result (run_of called_run) c.new-run.ensures.taker c.new-run.ensures.kept c.new-lines.ensures (run_looks_back c.looks_back.ensures.received c.looks_back.ensures.new) in
    same_read f (run_of called_run) _ _ _ _ is (c.run_to_end.ensures.at_read read)

pub returns-clause-at_memory : goal.returns-clause-at_memory
returns-clause-at_memory g c = λ memory.
    let f : Gives = run_gives (described_writes held_run (task_writes held_step held_of)) c.new-run.result in
    let is : f ≡ run_of called_run = first_gives held_run (task_writes held_step held_of) c.new-run.result c.new-lines.result (run_of called_run) c.new-run.ensures.taker c.new-run.ensures.kept c.new-lines.ensures (run_looks_back c.looks_back.ensures.received c.looks_back.ensures.new) in
    same_front f (run_of called_run) _ _ _ is (c.run_to_end.ensures.at_memory memory)
