-- All are lists of integers exactly where the rest are.
use Rattle.std.proofs.Common.{◌≡◌, drop}
use Rattle.toml.specs.View.{items_view}
use Rattle.pldm_device.specs.NumberLists.{are_number_lists}
use Rattle.pldm_device.proofs.number_lists.number_lists_of.Given as goal

abbrev pub invariant-loop-place : goal.invariant-loop-place
invariant-loop-place l = are_number_lists (items_view (drop l.place l.items)) ≡ are_number_lists (items_view l.items)
