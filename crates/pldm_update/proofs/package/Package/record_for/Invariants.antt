-- The first of all that applies is the first of those that are still looked at.
use Rattle.std.proofs.Common.{◌≡◌}
use Rattle.std.specs.List.{find}
use Rattle.pldm_update.specs.Applying.{applies_to}
use Rattle.pldm_update.proofs.package.Package.record_for.Given as goal

abbrev pub invariant-loop-device : goal.invariant-loop-device
invariant-loop-device l =
    (goal.iterator-loop-device).can_next l.device-iterator ×
    (goal.iterator-loop-device).is_finite l.device-iterator ×
    (find (applies_to l.identifiers) l.device-iterator ≡ find (applies_to l.identifiers) l.self.devices)
