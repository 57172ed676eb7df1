-- What is read has its fields in the response, and every answer whose fields stand there is read.
use Rattle.pldm_wire.proofs.ReadAnswers.{found, only}
use Rattle.pldm_wire.proofs.answer_reading.read_answer_of.Goals as goal

pub returns-clause-found : goal.returns-clause-found
returns-clause-found c =
    let r = c.args.response.now in
    rw c.answer_in.ensures.exact (found c.args.kind r.kind r.code r.rest c.answer_in.ensures.code)

pub returns-clause-only : goal.returns-clause-only
returns-clause-only c =
    λ a h. let r = c.args.response.now in
    rw c.answer_in.ensures.exact (only c.args.kind a r.kind r.code r.rest h)
