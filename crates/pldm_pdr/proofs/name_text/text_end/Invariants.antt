-- Where it ends is found in the bytes that are left.
use Rattle.std.proofs.Common.{◌≡◌, length}
use Rattle.pldm_pdr.specs.Names.{text_end}
use Rattle.pldm_pdr.proofs.name_text.text_end.Given as goal

abbrev pub invariant-units : goal.invariant-units
invariant-units l = text_end l.rest ≡ text_end l.bytes

abbrev pub decreases-units : goal.decreases-units
decreases-units l = length l.rest
