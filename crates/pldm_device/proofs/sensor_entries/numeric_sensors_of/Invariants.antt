-- The sensors so far and those of the rest are the sensors of all.
use Rattle.std.proofs.Common.{◌≡◌, [], drop}
use Rattle.toml.specs.View.{items_view}
use Rattle.pldm_device.specs.SensorEntries.{numeric_sensors_after}
use Rattle.pldm_device.proofs.sensor_entries.numeric_sensors_of.Given as goal

abbrev pub invariant-loop-place : goal.invariant-loop-place
invariant-loop-place l =
    numeric_sensors_after l.sensors.entries (items_view (drop l.place l.entries)) ≡ numeric_sensors_after [] (items_view l.entries)
