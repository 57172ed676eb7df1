use Rattle.pldm_requester.specs.Deadlines.{IsEarliest}
use Rattle.pldm_requester.proofs.requester.earliest_due.Given as goal

abbrev pub invariant-loop-number : goal.invariant-loop-number
invariant-loop-number l = IsEarliest l.timing l.count l.slots l.number l.earliest
