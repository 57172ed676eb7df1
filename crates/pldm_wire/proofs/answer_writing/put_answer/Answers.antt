-- The written code and data have the answer's fields in them.
use Rattle.pldm_wire.proofs.ReadAnswers.{written}
use Rattle.pldm_wire.proofs.answer_writing.put_answer.Goals as goal

pub returns-clause-fields : goal.returns-clause-fields
returns-clause-fields c =
    written c.args.answer.now c.args.kind c.requires.variant c.push_answer_data.ensures.range
