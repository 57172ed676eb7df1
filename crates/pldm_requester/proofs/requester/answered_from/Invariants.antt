use Rattle.std.proofs.Common.{◌≡◌, ◌-◌, ◌≤◌, length}
use Rattle.std.specs.Prelude.{filter}
use Rattle.pldm_requester.specs.Pacing.{is_answered_from, newest}
use Rattle.pldm_requester.specs.Slots.{remembered_in}
use Rattle.pldm_requester.specs.Steps.{course_of}
use Rattle.pldm_requester.proofs.requester.answered_from.Given as goal

abbrev pub invariant-loop-number : goal.invariant-loop-number
invariant-loop-number l = record {
  counted : l.answered ≡ length (filter (is_answered_from l.start) (newest (λ n. course_of (remembered_in l.count l.slots n)) l.number (l.number - (l.count - 31))));
  few : l.answered ≤ l.number - (l.count - 31);
}
