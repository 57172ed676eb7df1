-- Line by line, the commands are those of the lines so far.
use Rattle.std.proofs.Common.{◌+◌, ap, ◌∙◌, sym, arith}
use Rattle.line_words.specs.TextLines.{lines_of}
use Rattle.mctpctl.specs.AskedCommands.{commands_from, then}
use Rattle.mctpctl.proofs.CommandsRead.{at_first}
use Rattle.mctpctl.proofs.commands.commands_in.Goals as goal

pub loop-line-init : goal.loop-line-init
loop-line-init c = record {
  read = at_first c.args.text.now ∙ ap (λ commands. commands_from 1 commands (lines_of c.args.text.now)) (sym c.new-commands.ensures.items);
  size = omega arith;
}

pub loop-line-preserved : goal.loop-line-preserved
loop-line-preserved c =
    let i = c.loop-line.invariant in
    let after = lines_of c.in-Some.after.now in
    let long = c.in-Some.ensures.len in
    let size = i.size in
    record {
      read = i.read ∙ ap (commands_from c.loop-line.number c.loop-line.commands.items) c.in-Some.ensures.some
          ∙ ap (λ r. then r (λ commands. commands_from (c.loop-line.number + 1) commands after)) c.in_ok-add_command.ensures.added;
      size = omega (arith, size, long);
    }
