-- The register so far is that of the bytes so far.
use Rattle.std.proofs.Common.{◌≡◌, ◌∷◌, length, take}
use Rattle.std.specs.List.{fold}
use Rattle.mctp_serial.specs.CheckSequences.{byte_further}
use Rattle.mctp_serial.specs.declared.TheConstants.{REVISION, START_REGISTER}
use Rattle.mctp_serial.proofs.checking.check_sequence.Given as goal

abbrev pub invariant-loop-byte : goal.invariant-loop-byte
invariant-loop-byte l = l.register ≡ fold byte_further START_REGISTER (REVISION ∷ length l.packet ∷ take l.byte-index l.packet)
