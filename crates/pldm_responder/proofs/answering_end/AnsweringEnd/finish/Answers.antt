use Rattle.std.proofs.Common.{◌∙◌}
use Rattle.pldm_responder.specs.Looking.{end_closed}
use Rattle.pldm_responder.proofs.answering_end.AnsweringEnd.finish.Goals as goal

pub returns : goal.returns
returns c =
    c.forget.ensures
    ∙ (λ i. end_closed c.args.self.now c.args.now (c.source.ensures i) (c.tag.ensures i))
