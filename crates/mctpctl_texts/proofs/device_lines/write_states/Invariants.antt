-- The text that was written is that of the places so far, and the writer works as before.
use Rattle.std.proofs.Common.{◌≡◌, ◌≤◌, ◌-◌, flat_map, length, take}
use Rattle.std.specs.Io.KnownBytes.{Appends}
use Rattle.mctpctl_texts.specs.ReportTexts.{states_line}
use Rattle.simulated_device.specs.Getters.{states_of}
use Rattle.mctpctl_texts.proofs.device_lines.write_states.Given as goal

abbrev pub invariant-loop-id : goal.invariant-loop-id
invariant-loop-id g l = record {
  written : Appends (g.O.TextWriter.contents l.initial.out) (g.O.TextWriter.contents l.out) (flat_map (λ entry. states_line (states_of entry)) (take l.place l.device.state_effecters));
  works : g.O.TextWriter.failed l.out ≡ g.O.TextWriter.failed l.initial.out;
  within : l.place ≤ length l.device.state_effecters;
}

abbrev pub decreases-loop-id : goal.decreases-loop-id
decreases-loop-id g l = length l.device.state_effecters - l.place
