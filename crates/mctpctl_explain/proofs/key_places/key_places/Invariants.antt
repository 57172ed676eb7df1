-- What is left becomes less.
use Rattle.std.proofs.Common.{length}
use Rattle.mctpctl_explain.proofs.key_places.key_places.Given as goal

abbrev pub decreases-document : goal.decreases-document
decreases-document l = length l.rest
