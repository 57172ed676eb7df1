-- No endpoint ID is known where there is no requester.
use Rattle.std.proofs.Common.{◌<◌, false, arith}
use Rattle.std.proofs.lemmas.List.{get_or-replicate}
use Rattle.schedule_text.specs.declared.requesters.TheConstants.{EID_NUMBERS}
use Rattle.schedule_text.proofs.requesters.Requesters.new.Goals as goal

pub invariant_of-result : goal.invariant_of-result
invariant_of-result c = λ eid within.
    let below : eid < EID_NUMBERS = omega arith in
    rw c.new.ensures.items (get_or-replicate EID_NUMBERS eid false false below)
