-- The first of all that is of the image's kind is the first of those that are still looked at.
use Rattle.std.proofs.Common.{◌≡◌}
use Rattle.std.specs.List.{find}
use Rattle.mctpctl_update.specs.Offers.{is_of}
use Rattle.mctpctl_update.proofs.offers.component_of.Given as goal

abbrev pub invariant-loop-own : goal.invariant-loop-own
invariant-loop-own l =
    (goal.iterator-loop-own).can_next l.own-iterator ×
    (goal.iterator-loop-own).is_finite l.own-iterator ×
    (find (is_of l.image) l.own-iterator ≡ find (is_of l.image) l.parameters.components)
