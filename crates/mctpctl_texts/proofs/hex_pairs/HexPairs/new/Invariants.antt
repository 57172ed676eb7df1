-- The bytes so far have been asked for.
use Rattle.std.proofs.Common.{◌≡◌, length}
use Rattle.mctpctl_texts.specs.declared.hex_pairs.TheConstants.{BYTES}
use Rattle.mctpctl_texts.proofs.PairTables.{HoldsFront}
use Rattle.mctpctl_texts.proofs.hex_pairs.HexPairs.new.Given as goal

abbrev pub invariant-loop-byte : goal.invariant-loop-byte
invariant-loop-byte l = (length l.pairs ≡ BYTES) × HoldsFront l.pairs l.byte
