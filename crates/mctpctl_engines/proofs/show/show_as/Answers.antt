-- The run is that over all that the reader gives.
use Rattle.std.proofs.Common.{◌≡◌}
use Rattle.mctpctl_engines.specs.LinePieces.{run_gives}
use Rattle.mctpctl_engines.specs.LineTasks.{task_writes}
use Rattle.mctpctl_engines.specs.ObservedRuns.{observed_of, observed_step}
use Rattle.mctpctl_engines.specs.Pieces.{Gives}
use Rattle.mctpctl_engines.specs.ShowText.{seen_run}
use Rattle.mctpctl_engines.proofs.RunsToEnd.{same_text, same_read, same_front}
use Rattle.mctpctl_engines.proofs.ShownLookingBack.{first_shows}
use Rattle.mctpctl_engines.proofs.show.show_as.Goals as goal

pub returns-clause-text : goal.returns-clause-text
returns-clause-text g c =
    let form = g.F.MessageForm in
    let f : Gives = run_gives (task_writes (observed_step form.held_with form.held_line) (observed_of form.held_of)) c.new-run.result in
    let is : f ≡ seen_run c.args.binding form.line = first_shows form.held_with form.held_line form.none_held form.line g.met.F.MessageForm.looks_back c.looks_back.ensures.feed c.args.binding c.looks_back.ensures.new form.held_of c.new-run.result c.new-lines.result c.new.result (form.held_of c.args.form) c.new-run.ensures.taker c.new-run.ensures.kept c.new-lines.ensures.ended c.new-lines.ensures.task c.new.ensures c.requires.new in
    same_text f (seen_run c.args.binding form.line) _ _ _ _ is c.run_to_end.ensures.text

pub returns-clause-at_read : goal.returns-clause-at_read
returns-clause-at_read g c = λ read.
    let form = g.F.MessageForm in
    let f : Gives = run_gives (task_writes (observed_step form.held_with form.held_line) (observed_of form.held_of)) c.new-run.result in
    let is : f ≡ seen_run c.args.binding form.line = first_shows form.held_with form.held_line form.none_held form.line g.met.F.MessageForm.looks_back c.looks_back.ensures.feed c.args.binding c.looks_back.ensures.new form.held_of c.new-run.result c.new-lines.result c.new.result (form.held_of c.args.form) c.new-run.ensures.taker c.new-run.ensures.kept c.new-lines.ensures.ended c.new-lines.ensures.task c.new.ensures c.requires.new in
    same_read f (seen_run c.args.binding form.line) _ _ _ _ is (c.run_to_end.ensures.at_read read)

pub returns-clause-at_memory : goal.returns-clause-at_memory
returns-clause-at_memory g c = λ memory.
    let form = g.F.MessageForm in
    let f : Gives = run_gives (task_writes (observed_step form.held_with form.held_line) (observed_of form.held_of)) c.new-run.result in
    let is : f ≡ seen_run c.args.binding form.line = first_shows form.held_with form.held_line form.none_held form.line g.met.F.MessageForm.looks_back c.looks_back.ensures.feed c.args.binding c.looks_back.ensures.new form.held_of c.new-run.result c.new-lines.result c.new.result (form.held_of c.args.form) c.new-run.ensures.taker c.new-run.ensures.kept c.new-lines.ensures.ended c.new-lines.ensures.task c.new.ensures c.requires.new in
    same_front f (seen_run c.args.binding form.line) _ _ _ is (c.run_to_end.ensures.at_memory memory)
