use Rattle.std.proofs.Common.{ap, arith}
use Rattle.std.specs.FinMap.{len-empty}
use Rattle.mctp_assembly.specs.Keys.{key_cmp}
use Rattle.mctp_assembly.specs.Opened.{Opened}
use Rattle.pldm_responder.specs.Ends.{eid_or_null}
use Rattle.pldm_responder.specs.Slots.{row_of, source_count}
use Rattle.pldm_responder.proofs.AskedKeys.{none_asked}
use Rattle.pldm_responder.proofs.NoId.{idle_of_none}
use Rattle.pldm_responder.proofs.OpenOrders.{none_ordered}
use Rattle.pldm_responder.proofs.answering_end.AnsweringEnd.new.Goals as goal

pub invariant_of-result : goal.invariant_of-result
invariant_of-result c =
    let empty = c.new-2.ensures in (
      rw empty (none_asked (eid_or_null c.args.own)),
      ap (λ rows. row_of rows (eid_or_null c.args.own)) c.new-4.ensures,
      (rw empty (omega (arith, len-empty key_cmp Opened)), omega (arith, ap source_count c.new-4.ensures)),
      rw empty (none_ordered _ _),
      idle_of_none _ _ c.new-4.result empty (ap source_count c.new-4.ensures),
    )
