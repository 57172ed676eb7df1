-- Where it ends is found in the bytes that are left.
use Rattle.std.proofs.Common.{◌≡◌, length}
use Rattle.pldm_pdr.specs.Names.{tag_end}
use Rattle.pldm_pdr.proofs.name_text.tag_end.Given as goal

abbrev pub invariant-bytes : goal.invariant-bytes
invariant-bytes l = tag_end l.rest ≡ tag_end l.bytes

abbrev pub decreases-bytes : goal.decreases-bytes
decreases-bytes l = length l.rest
