-- A request that was opened and sent.
use Rattle.pldm_line.proofs.Opening.{opened_now}
use Rattle.pldm_line.proofs.SameRequester.{same_held}
use Rattle.pldm_line.specs.Asked.{asking_of}
use Rattle.pldm_requester.specs.Slots.{held_of}
use Rattle.pldm_line.proofs.asking_line.open_now.Goals as goal

pub returns-in-Ok-send_request-clause-opened : goal.returns-in-Ok-send_request-clause-opened
returns-in-Ok-send_request-clause-opened g c =
    opened_now (asking_of c.args.line.now) (held_of c.open.new.self) c.args.command.now c.in-Ok.opened
    (g.W.Write.contents c.args.writer.now.inner) (g.W.Write.contents c.send_request.new.writer.inner)
    c.last_moment.result c.last_moment.ensures c.in-Ok.ensures.answer (same_held c.in-Ok.ensures.held)
    c.in-Ok-send_request.ensures.bytes
