-- The numbers so far and those of the rest are the numbers of all.
use Rattle.std.proofs.Common.{◌≡◌, [], drop, length}
use Rattle.toml.specs.View.{items_view}
use Rattle.pldm_device.specs.NumberLists.{numbers_after}
use Rattle.pldm_device.proofs.number_lists.numbers_in.Given as goal

abbrev pub invariant-loop-place : goal.invariant-loop-place
invariant-loop-place l = record {
  all : numbers_after l.high l.numbers.items (items_view (drop l.place l.items)) ≡ numbers_after l.high [] (items_view l.items);
  so_far : length l.numbers.items ≡ l.place;
}
