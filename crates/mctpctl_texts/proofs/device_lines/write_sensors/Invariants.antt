-- The text that was written is that of the places so far, and the writer works as before.
use Rattle.std.proofs.Common.{◌≡◌, ◌≤◌, ◌-◌, codes, flat_map, length, take}
use Rattle.std.specs.Io.KnownBytes.{Appends}
use Rattle.mctpctl_texts.specs.ReportTexts.{value_line}
use Rattle.simulated_device.specs.Getters.{reading_of}
use Rattle.mctpctl_texts.proofs.device_lines.write_sensors.Given as goal

abbrev pub invariant-loop-id : goal.invariant-loop-id
invariant-loop-id g l = record {
  written : Appends (g.O.TextWriter.contents l.initial.out) (g.O.TextWriter.contents l.out) (flat_map (λ entry. value_line (codes "sensor") (reading_of entry)) (take l.place l.device.numeric_sensors));
  works : g.O.TextWriter.failed l.out ≡ g.O.TextWriter.failed l.initial.out;
  within : l.place ≤ length l.device.numeric_sensors;
}

abbrev pub decreases-loop-id : goal.decreases-loop-id
decreases-loop-id g l = length l.device.numeric_sensors - l.place
