-- The line of the message, and then those of the record that it ends.
use Rattle.mctpctl_decode.specs.DecodedLines.{decoded_line}
use Rattle.mctpctl_decode.specs.HeldTransfers.{held_in}
use Rattle.mctpctl_decode.specs.Transfers.{with_message}
use Rattle.mctpctl_engines.specs.MessageForms.{whole_message}
use Rattle.mctpctl_decode.proofs.EndedLines.{then_ends}
use Rattle.mctpctl_decode.proofs.decode.ByNameMessageForm.push_line.Goals as goal

pub returns-clause-line : goal.returns-clause-line
returns-clause-line c =
    let m = whole_message c.args.route c.args.message.now in
    then_ends c.take.result (held_in c.take.new.self.between.entries) (with_message (held_in c.args.self.now.transfers.between.entries) m) m
    c.args.out.now.items c.push_decoded_line.new.out.items c.take.new.out.items (decoded_line c.args.message.now) c.in_ok-push_decoded_line.ensures c.take.ensures.held c.take.ensures.lines
