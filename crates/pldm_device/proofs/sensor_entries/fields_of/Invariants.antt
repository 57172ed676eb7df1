-- The fields so far and those of the rest are the fields of all.
use Rattle.std.proofs.Common.{◌≡◌, [], drop, length}
use Rattle.toml.specs.View.{items_view}
use Rattle.pldm_device.specs.SensorEntries.{fields_after}
use Rattle.pldm_device.proofs.sensor_entries.fields_of.Given as goal

abbrev pub invariant-loop-place : goal.invariant-loop-place
invariant-loop-place l = record {
  all : fields_after l.fields.items (items_view (drop l.place l.lists)) ≡ fields_after [] (items_view l.lists);
  so_far : length l.fields.items ≡ l.place;
}
