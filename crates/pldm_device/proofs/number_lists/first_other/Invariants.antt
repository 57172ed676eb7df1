-- All are integers exactly where the rest are.
use Rattle.std.proofs.Common.{◌≡◌, drop}
use Rattle.toml.specs.View.{items_view}
use Rattle.pldm_device.specs.NumberLists.{are_integers}
use Rattle.pldm_device.proofs.number_lists.first_other.Given as goal

abbrev pub invariant-loop-place : goal.invariant-loop-place
invariant-loop-place l = are_integers (items_view (drop l.place l.items)) ≡ are_integers (items_view l.items)
