-- The numbers so far and those of the rest are the numbers of all.
use Rattle.std.proofs.Common.{◌≡◌, [], drop}
use Rattle.toml.specs.View.{items_view}
use Rattle.pldm_device.specs.NumberLists.{numbers_after}
use Rattle.pldm_device.specs.declared.limits.TheConstants.{MAX_BYTE}
use Rattle.pldm_device.proofs.effecter_entries.numbers_of.Given as goal

abbrev pub invariant-loop-place : goal.invariant-loop-place
invariant-loop-place l = numbers_after MAX_BYTE l.numbers.items (items_view (drop l.place l.items)) ≡ numbers_after MAX_BYTE [] (items_view l.items)
