use Rattle.pldm_responder.specs.Ends.{eid_or_null}
use Rattle.pldm_responder.proofs.AskedKeys.{asked_without}
use Rattle.pldm_responder.proofs.NoId.{idle_without}
use Rattle.pldm_responder.proofs.OpenOrders.{ordered_without}
use Rattle.pldm_responder.proofs.OpenBounds.{len_without}
use Rattle.pldm_responder.proofs.answering_end.AnsweringEnd.forget.Goals as goal

pub invariant_of-self : goal.invariant_of-self
invariant_of-self c =
    (rw c.forget.ensures (asked_without (eid_or_null c.self.inside.own) c.self.inside.assembler _ c.self.invariant.0), c.self.invariant.1, (rw c.forget.ensures (len_without _ _ _ c.self.invariant.2.0), c.self.invariant.2.1), rw c.forget.ensures (ordered_without _ _ _ _ c.self.invariant.3), rw c.forget.ensures (idle_without _ _ c.self.inside.kept _ c.self.invariant.4))
