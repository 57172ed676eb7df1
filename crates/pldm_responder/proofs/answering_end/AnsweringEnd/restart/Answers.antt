use Rattle.std.proofs.Common.{ap, arith}
use Rattle.std.specs.FinMap.{len-empty}
use Rattle.mctp_assembly.specs.Keys.{key_cmp}
use Rattle.mctp_assembly.specs.Opened.{Opened}
use Rattle.pldm_responder.specs.Ends.{eid_or_null}
use Rattle.pldm_responder.specs.Slots.{row_of, source_count}
use Rattle.pldm_responder.proofs.AskedKeys.{none_asked}
use Rattle.pldm_responder.proofs.NoId.{idle_of_none}
use Rattle.pldm_responder.proofs.OpenOrders.{none_ordered}
use Rattle.pldm_responder.proofs.answering_end.AnsweringEnd.restart.Goals as goal

pub invariant_of-self : goal.invariant_of-self
invariant_of-self c =
    let empty = c.new.ensures in (
      rw empty (none_asked (eid_or_null c.self.inside.own)),
      ap (λ rows. row_of rows (eid_or_null c.self.inside.own)) c.new-2.ensures,
      (rw empty (omega (arith, len-empty key_cmp Opened)), omega (arith, ap source_count c.new-2.ensures)),
      rw empty (none_ordered _ _),
      idle_of_none _ _ c.new-2.result empty (ap source_count c.new-2.ensures),
    )
