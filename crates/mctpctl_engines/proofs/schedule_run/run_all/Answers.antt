-- The run is that over all that the reader gives, and before its end nothing is written.
use Rattle.std.proofs.Common.{◌≡◌, refl}
use Rattle.mctpctl_engines.specs.AnswerText.{run_of}
use Rattle.mctpctl_engines.specs.DescribedLines.{described_writes}
use Rattle.mctpctl_engines.specs.RunText.{scheduled_run}
use Rattle.mctpctl_engines.specs.LinePieces.{run_gives}
use Rattle.mctpctl_engines.specs.ScheduleLines.{schedule_writes}
use Rattle.mctpctl_engines.proofs.AnswersOfRuns.{first_gives}
use Rattle.mctpctl_engines.proofs.ScheduleGlue.{nothing_at_memory, nothing_at_read}
use Rattle.mctpctl_engines.proofs.RunsToEnd.{same_text, same_read, same_front}
use Rattle.mctpctl_engines.specs.Pieces.{Gives}
use Rattle.mctpctl_engines.proofs.schedule_run.run_all.Goals as goal

pub returns-clause-text : goal.returns-clause-text
returns-clause-text g c =
    let f : Gives = run_gives (described_writes scheduled_run schedule_writes) c.new-run.result in
    let is : f ≡ run_of scheduled_run = first_gives scheduled_run schedule_writes c.new-run.result c.new-lines.result (run_of scheduled_run) c.new-run.ensures.taker c.new-run.ensures.kept c.new-lines.ensures (λ is_cut bytes. refl) in
    same_text f (run_of scheduled_run) _ _ _ _ is c.run_to_end.ensures.text

pub returns-clause-at_read : goal.returns-clause-at_read
returns-clause-at_read g c = λ read.
    let f : Gives = run_gives (described_writes scheduled_run schedule_writes) c.new-run.result in
    let is : f ≡ run_of scheduled_run = first_gives scheduled_run schedule_writes c.new-run.result c.new-lines.result (run_of scheduled_run) c.new-run.ensures.taker c.new-run.ensures.kept c.new-lines.ensures (λ is_cut bytes. refl) in
    nothing_at_read _ _ _ _ (same_read f (run_of scheduled_run) _ _ _ _ is (c.run_to_end.ensures.at_read read))

pub returns-clause-at_memory : goal.returns-clause-at_memory
returns-clause-at_memory g c = λ memory.
    let f : Gives = run_gives (described_writes scheduled_run schedule_writes) c.new-run.result in
    let is : f ≡ run_of scheduled_run = first_gives scheduled_run schedule_writes c.new-run.result c.new-lines.result (run_of scheduled_run) c.new-run.ensures.taker c.new-run.ensures.kept c.new-lines.ensures (λ is_cut bytes. refl) in
    nothing_at_memory _ _ _ (same_front f (run_of scheduled_run) _ _ _ is (c.run_to_end.ensures.at_memory memory))
