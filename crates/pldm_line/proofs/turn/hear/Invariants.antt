-- What is to come of the rest is what is to come of all.
use Rattle.std.proofs.Common.{◌≡◌, ◌≤◌, length}
use Rattle.mctp_serial.specs.Readings.{after}
use Rattle.pldm_line.specs.QueryTurns.{all_seen}
use Rattle.pldm_line.specs.Turns.{WantsMemory, received}
use Rattle.pldm_line.specs.Serving.{packets_in}
use Rattle.pldm_requester.specs.Slots.{held_of}
use Rattle.pldm_line.proofs.turn.hear.Given as goal

abbrev pub invariant-loop-byte : goal.invariant-loop-byte
invariant-loop-byte l = record {
  reading : after l.initial.frames l.initial.rest ≡ after l.frames l.rest;
  held : received (held_of l.initial.requester) l.now (packets_in l.initial.frames l.initial.rest)
      ≡ received (held_of l.requester) l.now (packets_in l.frames l.rest);
  seen : all_seen l.initial.wanted (packets_in l.initial.frames l.initial.rest) ≡ all_seen l.wanted (packets_in l.frames l.rest);
  wants : WantsMemory (held_of l.requester) l.now (packets_in l.frames l.rest)
      → WantsMemory (held_of l.initial.requester) l.now (packets_in l.initial.frames l.initial.rest);
  last : (held_of l.requester).last ≤ l.now;
}

abbrev pub decreases-loop-byte : goal.decreases-loop-byte
decreases-loop-byte l = length l.rest
