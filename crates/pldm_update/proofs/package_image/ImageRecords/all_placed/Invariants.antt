-- Whether all are placed is whether those are that are still looked at.
use Rattle.std.proofs.Common.{◌≡◌}
use Rattle.pldm_update.specs.PackageReading.{all_placed}
use Rattle.pldm_update.proofs.package_image.ImageRecords.all_placed.Given as goal

abbrev pub invariant-loop-image : goal.invariant-loop-image
invariant-loop-image l =
    (goal.iterator-loop-image).can_next l.image-iterator ×
    (goal.iterator-loop-image).is_finite l.image-iterator ×
    (all_placed l.header l.file l.image-iterator ≡ all_placed l.header l.file l.self)
