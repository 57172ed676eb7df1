use Rattle.std.proofs.Common.{◌+◌, ◌<◌, ◌≤◌, refl, arith}
use Rattle.pldm_requester.proofs.NextDeadlines.{earliest_more}
use Rattle.pldm_requester.proofs.TickedSlots.{is_first}
use Rattle.pldm_requester.proofs.requester.earliest_due.Goals as goal

pub loop-number-preserved : goal.loop-number-preserved
loop-number-preserved c =
    let count = c.args.count in
    let number = c.loop-number.number in
    let slots = c.args.slots.now in
    let memo = c.index-slots-number.result in
    let near : count ≤ number + 8 = omega arith in
    let close : count ≤ number + 32 = omega arith in
    let below : number < count = omega arith in
    let is = is_first count number slots memo memo c.requires below close c.index-slots-number.is slots (λ k l. refl) in
    earliest_more c.args.timing.now count number slots memo c.loop-number.earliest c.due_from.result c.earlier-earliest.result near is c.due_from.ensures c.earlier-earliest.ensures c.loop-number.invariant
