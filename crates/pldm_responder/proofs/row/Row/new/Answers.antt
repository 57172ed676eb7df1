use Rattle.pldm_responder.proofs.SourceAnswers.{new_latest}
use Rattle.pldm_responder.proofs.row.Row.new.Goals as goal

pub invariant_of-result : goal.invariant_of-result
invariant_of-result c =
    let slots = c.args.slots in
    new_latest c.args.window c.new.result slots.entries c.new-2.result slots.room c.get-range.ensures.range c.new.ensures c.requires.none c.new-2.ensures c.requires.room
