-- Fewer bytes are left each time.
use Rattle.std.proofs.Common.{length}
use Rattle.mctpctl_decode.proofs.name_text.+push_tag.Given as goal

abbrev pub decreases-push_tag : goal.decreases-push_tag
decreases-push_tag l = length l.bytes.now
