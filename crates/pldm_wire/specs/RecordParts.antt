-- A part of a record in a GetPDR answer (DSP0248, "GetPDR command").
use Rattle.std.specs.Prelude.{◌≡◌, ℕ, ◌≤◌, List, [], ◌∷◌, length, Option, Some, None, is_some}
use Rattle.pldm_wire.specs.TransferFlags.{is_end}
use Rattle.pldm_wire.specs.declared.limits.TheConstants.{MAX_PART_BYTES}
use Rattle.pldm_wire.specs.declared.transfer_flag.TransferFlag.{TransferFlag}

-- its transfer flag, its bytes, and the checksum that follows them
pub record Part : Type 0 where
  pub flag : TransferFlag
  pub bytes : List ℕ
  pub transfer_crc : Option ℕ

abbrev pub part : TransferFlag → List ℕ → Option ℕ → Part
part flag bytes transfer_crc = record { flag = flag; bytes = bytes; transfer_crc = transfer_crc }

-- it is not too long, and a checksum follows exactly the last of several parts
abbrev pub IsPart : Part → Type 0
IsPart p = (length p.bytes ≤ MAX_PART_BYTES) × (is_some p.transfer_crc ≡ is_end p.flag)

-- the bytes of a checksum, if there is one
abbrev pub checksum_bytes : Option ℕ → List ℕ
checksum_bytes None = []
checksum_bytes (Some transfer_crc) = transfer_crc ∷ []
