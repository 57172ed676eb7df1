use Rattle.std.proofs.Common.{◌≡◌, ℕ, ◌-◌, ◌<◌, ◌≤◌, length}
use Rattle.std.specs.Prelude.{filter, option_map}
use Rattle.std.specs.List.{range_with_len}
use Rattle.pldm_requester.specs.Courses.{is_given_up, is_sent_again, ticked}
use Rattle.pldm_requester.specs.Slots.{remembered_in}
use Rattle.pldm_requester.specs.Steps.{passes, with_course}
use Rattle.pldm_requester.specs.declared.requester.TheConstants.{MAX_OPEN}
use Rattle.pldm_requester.proofs.requester.tick_last.Given as goal

abbrev pub invariant-loop-number : goal.invariant-loop-number
invariant-loop-number l = record {
  again : l.due.again.items ≡ filter (λ n. passes (is_sent_again l.timing l.now) (remembered_in l.count l.initial.slots n)) (range_with_len (l.count - MAX_OPEN) (l.number - (l.count - MAX_OPEN)));
  given_up : l.due.given_up.items ≡ filter (λ n. passes (is_given_up l.timing l.now) (remembered_in l.count l.initial.slots n)) (range_with_len (l.count - MAX_OPEN) (l.number - (l.count - MAX_OPEN)));
  few_again : length l.due.again.items ≤ l.number - (l.count - MAX_OPEN);
  few_given_up : length l.due.given_up.items ≤ l.number - (l.count - MAX_OPEN);
  ticked : (k : ℕ) → k < l.number → remembered_in l.count l.slots k ≡ option_map (with_course (ticked l.timing l.now)) (remembered_in l.count l.initial.slots k);
  left : (k : ℕ) → l.number ≤ k → remembered_in l.count l.slots k ≡ remembered_in l.count l.initial.slots k;
}
