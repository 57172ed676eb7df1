use Rattle.bus_endpoint.proofs.bus_endpoint.BusEndpoint.take_drop.Goals as goal

pub returns-clause-some : goal.returns-clause-some
returns-clause-some c reply had = c.answered.ensures.some reply had c.answer_drop-answer.ensures.some
