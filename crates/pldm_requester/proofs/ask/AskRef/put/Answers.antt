-- The message of a command is no longer than one packet carries.
use Rattle.std.proofs.Common.{ap, length, arith}
use Rattle.pldm_requester.proofs.ask.AskRef.put.Goals as goal

pub returns-in-Command-clause-few : goal.returns-in-Command-clause-few
returns-in-Command-clause-few c =
    let same = ap length c.put_command.ensures.spelled in
    let short = (c.messages_fit.ensures.command c.args.id c.in-Command.command.now c.put_command.ensures.range).1 in
    omega (arith, same, short)
