-- Each of the table's entries is the checksum of its place.
use Rattle.std.proofs.Common.{get_or, refl, ap, ◌∙◌, arith}
use Rattle.pldm_wire.specs.Crc.{crc}
use Rattle.pldm_wire.specs.declared.crc.TheConstants.{TABLE}
use Rattle.pldm_wire.proofs.ChecksumTable.{has_checksums, entry_at}
use Rattle.pldm_wire.proofs.crc.crc_of.Goals as goal

pub returns : goal.returns
unfolding has_checksums crc
returns c = ap (λ x. get_or TABLE x 0) c.from.ensures ∙ entry_at TABLE 256 c.args.byte (omega arith) refl
