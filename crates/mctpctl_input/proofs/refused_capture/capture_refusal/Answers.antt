-- The words of the line are its first one and those behind it.
use Rattle.std.proofs.Common.{length}
use Rattle.mctpctl_input.proofs.refused_capture.capture_refusal.Goals as goal

pub returns-clause-found : goal.returns-clause-found
returns-clause-found c = rw c.in_ok-first.ensures.some (c.words_refusal.ensures.found (length c.args.line.now))
