-- The offers of all images are those so far, and then those of the images that are still looked at.
use Rattle.std.proofs.Common.{◌≡◌, ◌≤◌, map}
use Rattle.mctpctl_update.specs.Offers.{offered, offers_of, with_front}
use Rattle.mctpctl_update.specs.declared.offers.TheConstants.{MAX_IMAGES}
use Rattle.mctpctl_update.proofs.offers.package_offers.Given as goal

abbrev pub invariant-loop-image : goal.invariant-loop-image
invariant-loop-image l =
    (goal.iterator-loop-image).can_next l.image-iterator ×
    (goal.iterator-loop-image).is_finite l.image-iterator ×
    (l.number ≤ MAX_IMAGES) ×
    (with_front (map offered l.offers.items) (offers_of l.package l.parameters l.record l.number l.image-iterator)
    ≡ offers_of l.package l.parameters l.record 0 l.package.images)
