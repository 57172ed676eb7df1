-- The records so far and those of the rest are the records of all.
use Rattle.std.proofs.Common.{◌≡◌, [], drop, length}
use Rattle.toml.specs.View.{items_view}
use Rattle.pldm_device.specs.RecordEntries.{records_after}
use Rattle.pldm_device.proofs.record_entries.records_of.Given as goal

abbrev pub invariant-loop-place : goal.invariant-loop-place
invariant-loop-place l = record {
  all : records_after l.records (items_view (drop l.place l.entries)) ≡ records_after [] (items_view l.entries);
  so_far : length l.records ≡ l.place;
}
