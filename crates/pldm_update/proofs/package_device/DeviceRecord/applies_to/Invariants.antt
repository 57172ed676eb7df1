-- Whether all are among the device's is whether those are that are still looked at.
use Rattle.std.proofs.Common.{◌≡◌}
use Rattle.std.specs.List.{list_all}
use Rattle.pldm_update.specs.Applying.{is_among}
use Rattle.pldm_update.proofs.package_device.DeviceRecord.applies_to.Given as goal

abbrev pub invariant-loop-descriptor : goal.invariant-loop-descriptor
invariant-loop-descriptor l =
    (goal.iterator-loop-descriptor).can_next l.descriptor-iterator ×
    (goal.iterator-loop-descriptor).is_finite l.descriptor-iterator ×
    (list_all (is_among l.identifiers) l.descriptor-iterator ≡ list_all (is_among l.identifiers) l.self.descriptors)
