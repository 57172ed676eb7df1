-- The written data has the answer's fields in it.
use Rattle.pldm_update.proofs.ReadAnswers.{written}
use Rattle.pldm_update.proofs.answer_writing.update_answer_data.Goals as goal

pub returns-clause-fields : goal.returns-clause-fields
returns-clause-fields c =
    λ number to. rw c.spelled.ensures.items (written c.args.answer.now number to c.spelled.ensures.range)
