use Rattle.std.proofs.Common.{◌≡◌, ⊎_elim, arith, sym, subst}
use Rattle.mctp_packet.specs.Ids.{IsEid}
use Rattle.mctp_packet.specs.declared.TheConstants.{NULL_EID}
use Rattle.pldm_responder.specs.Ends.{End, IsOwn, eid_or_null}
use Rattle.pldm_responder.proofs.AskedKeys.{few_pending}
use Rattle.pldm_responder.proofs.answering_end.AnsweringEnd.open_messages.Goals as goal

pub returns-clause-few : goal.returns-clause-few
returns-clause-few c =
    let own = eid_or_null c.self.inside.own in
    let is : IsOwn own = subst (λ (e : End). IsOwn e.own) (sym c.self.view_is) c.own_number-range.ensures.range in
    rw c.pending.ensures.value
    (⊎_elim
    (λ (none : own ≡ NULL_EID). omega (arith, (c.self.invariant.4 none).0))
    (λ (home : IsEid own). few_pending own c.self.inside.assembler home c.self.invariant.0)
    is)
