-- The bytes so far have been spelled.
use Rattle.std.proofs.Common.{◌≡◌, ◌≤◌, ◌+◌, ◌*◌, ◌∷◌, length, take}
use Rattle.mctp_serial.specs.Frames.{spelled_all}
use Rattle.mctp_serial.specs.declared.TheConstants.{FLAG, REVISION}
use Rattle.mctp_serial.proofs.frames.frame.Given as goal

abbrev pub invariant-loop-byte : goal.invariant-loop-byte
invariant-loop-byte l = record {
  spelled : l.bytes.items ≡ FLAG ∷ REVISION ∷ length l.packet ∷ spelled_all (take l.byte-index l.packet);
  few : length l.bytes.items ≤ 3 + 2 * l.byte-index;
}
