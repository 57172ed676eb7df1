-- The words so far and those that are left make all.
use Rattle.std.proofs.Common.{◌≡◌, ◌++◌, ◌-◌, length}
use Rattle.pldm_wire.specs.declared.limits.TheConstants.{MAX_STATES}
use Rattle.schedule_text.proofs.words.Words.rest.Given as goal

abbrev pub invariant-loop-word : goal.invariant-loop-word
invariant-loop-word l = l.initial.self ≡ l.words.items ++ l.self

abbrev pub decreases-loop-word : goal.decreases-loop-word
decreases-loop-word l = MAX_STATES - length l.words.items
