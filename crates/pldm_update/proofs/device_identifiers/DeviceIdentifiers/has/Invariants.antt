-- Whether it is among all is whether it is among those that are still looked at.
use Rattle.std.proofs.Common.{◌≡◌}
use Rattle.pldm_update.specs.Applying.{is_among}
use Rattle.pldm_update.proofs.device_identifiers.DeviceIdentifiers.has.Given as goal

abbrev pub invariant-loop-own : goal.invariant-loop-own
invariant-loop-own l =
    (goal.iterator-loop-own).can_next l.own-iterator ×
    (goal.iterator-loop-own).is_finite l.own-iterator ×
    (is_among l.own-iterator l.descriptor ≡ is_among l.self l.descriptor)
