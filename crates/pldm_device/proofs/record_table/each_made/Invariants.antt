-- The records so far and those of the rest are the records of all.
use Rattle.std.proofs.Common.{◌≡◌, drop}
use Rattle.toml.specs.View.{items_view}
use Rattle.pldm_device.specs.RecordTables.{each_made}
use Rattle.pldm_device.proofs.record_table.each_made.Given as goal

abbrev pub invariant-loop-place : goal.invariant-loop-place
invariant-loop-place l =
    each_made l.kind l.device l.default l.made (items_view (drop l.place l.entries)) ≡ each_made l.kind l.device l.default l.initial.made (items_view l.entries)
