use Rattle.std.proofs.Common.{[], ◌∷◌, subst, sym, ap, ◌∙◌}
use Rattle.pldm_responder.specs.Asked.{listed}
use Rattle.pldm_endpoint.specs.Receiving.{HasAnswered}
use Rattle.pldm_endpoint.specs.RequestKeys.{pending_at}
use Rattle.fan_board.proofs.ServedSteps.{response_is}
use Rattle.fan_board.proofs.service.respond.Goals as goal

pub returns-in-Some-data : goal.returns-in-Some-data
returns-in-Some-data c =
    subst (λ g. HasAnswered c.args.endpoint.now c.args.handle.now g c.give.new.endpoint c.give.result)
    (response_is c.args.board.now (pending_at c.args.endpoint.now.pending c.args.handle.now) c.in-Some.request c.respond-code.result.0 (c.in-Some-data.byte ∷ []) c.requires (sym c.in-Some.is ∙ c.request.ensures.value)
    c.respond-code.ensures.code (sym (ap listed c.in-Some-data.is) ∙ c.respond-code.ensures.rest))
    c.give.ensures

pub returns-in-None : goal.returns-in-None
returns-in-None c =
    subst (λ g. HasAnswered c.args.endpoint.now c.args.handle.now g c.give-in-None.new.endpoint c.give-in-None.result)
    (response_is c.args.board.now (pending_at c.args.endpoint.now.pending c.args.handle.now) c.in-Some.request c.respond-code.result.0 [] c.requires (sym c.in-Some.is ∙ c.request.ensures.value)
    c.respond-code.ensures.code (sym (ap listed c.in-None.is) ∙ c.respond-code.ensures.rest))
    c.give-in-None.ensures
