use Rattle.mctp_assembly.proofs.messages.Messages.take.Goals as goal

pub returns-else-end-clause-fed : goal.returns-else-end-clause-fed
returns-else-end-clause-fed c = c.take_part.ensures.fed c.args.message.now.items
