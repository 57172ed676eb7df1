-- What is gone from `rest` was appended, no write has failed, and what was taken waits for a flush.
use Rattle.std.proofs.Common.{◌≡◌, ℕ, ◌<◌, false, List, ◌++◌, length}
use Rattle.std.specs.Io.KnownBytes.{Appends}
use Rattle.mctpctl_input.proofs.port.PortWrite.write_all.Given as goal

abbrev pub invariant-loop-rest : goal.invariant-loop-rest
invariant-loop-rest g l =
    (done : List ℕ) × (l.initial.rest ≡ done ++ l.rest)
    × Appends (g.T.Write.contents l.initial.self.inner) (g.T.Write.contents l.self.inner) done
    × (l.self.failed ≡ l.initial.self.failed)
    × (0 < length done → l.self.flushed ≡ false)

abbrev pub decreases-loop-rest : goal.decreases-loop-rest
decreases-loop-rest g l = length l.rest
