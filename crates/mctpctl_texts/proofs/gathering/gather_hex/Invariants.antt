-- What is gone from `rest` was gathered in hex.
use Rattle.std.proofs.Common.{◌≡◌, ℕ, List, ◌++◌, length}
use Rattle.std.specs.Io.KnownBytes.{Appends}
use Rattle.hex.specs.Hex.{encode_lower}
use Rattle.mctpctl_texts.specs.Gathering.{in_all}
use Rattle.mctpctl_texts.proofs.gathering.gather_hex.Given as goal

abbrev pub invariant-loop-rest : goal.invariant-loop-rest
invariant-loop-rest g l = record {
  done : List ℕ;
  split : l.initial.rest ≡ done ++ l.rest;
  written : Appends (in_all g.O.TextWriter.contents l.initial.out l.initial.page) (in_all g.O.TextWriter.contents l.out l.page) (encode_lower done);
  works : g.O.TextWriter.failed l.out ≡ g.O.TextWriter.failed l.initial.out;
}

abbrev pub decreases-loop-rest : goal.decreases-loop-rest
decreases-loop-rest g l = length l.rest
