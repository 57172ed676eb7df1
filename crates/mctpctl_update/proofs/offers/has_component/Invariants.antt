-- Whether the device has it is whether it is among those that are still looked at.
use Rattle.std.proofs.Common.{◌≡◌}
use Rattle.std.specs.List.{list_any}
use Rattle.mctpctl_update.specs.Offers.{is_same}
use Rattle.mctpctl_update.proofs.offers.has_component.Given as goal

abbrev pub invariant-loop-own : goal.invariant-loop-own
invariant-loop-own l =
    (goal.iterator-loop-own).can_next l.own-iterator ×
    (goal.iterator-loop-own).is_finite l.own-iterator ×
    (list_any (λ own. is_same l.component own.component) l.own-iterator
    ≡ list_any (λ own. is_same l.component own.component) l.parameters.components)
