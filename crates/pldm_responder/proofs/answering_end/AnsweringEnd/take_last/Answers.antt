use Rattle.std.proofs.Common.{sym, subst, ◌≡◌, false}
use Rattle.mctp_packet.specs.Ids.{IsEid}
use Rattle.pldm_responder.specs.Ends.{End, eid_or_null}
use Rattle.pldm_responder.proofs.NoId.{idle_at_home}
use Rattle.pldm_responder.proofs.OpenOrders.{ordered_going_on}
use Rattle.pldm_responder.proofs.OpenedPackets.{goes_on_by, open_going_on}
use Rattle.pldm_responder.specs.OpenOrder.{begins}
use Rattle.pldm_responder.proofs.answering_end.AnsweringEnd.take_last.Goals as goal

pub invariant_of-self-in-Ok-Dropped : goal.invariant_of-self-in-Ok-Dropped
invariant_of-self-in-Ok-Dropped c =
    let fed = rw c.in-Ok-Dropped.field-0-is at c.in-Ok-Dropped.ensures in
    let goes_on : begins c.args.packet.now ≡ false = goes_on_by _ _ c.requires.last.ends in
    let left = open_going_on _ _ _ c.args.packet.now c.feed_without_ending.new.self c.self.invariant.0 c.self.invariant.2.0 goes_on fed.ok in
    let home : IsEid (eid_or_null c.self.inside.own) = subst (λ (e : End). IsEid e.own) (sym c.self.view_is) c.requires.last.home in
    (left.0, c.self.invariant.1, (left.1, c.self.invariant.2.1), ordered_going_on _ _ _ c.args.packet.now c.feed_without_ending.new.self c.self.invariant.3 goes_on fed.ok, idle_at_home _ _ c.self.inside.kept home)
