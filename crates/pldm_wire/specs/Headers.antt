-- The header of a request or a response (DSP0240, "PLDM message fields"): the first check that
-- fails, in the order of this list, and the fields by place.
use Rattle.std.specs.Prelude.{ℕ, ◌/◌, ◌%◌, Bool, not, ◌==◌, nat_lt, List, [], ◌∷◌, length, slice_index, Option}
use Rattle.mctp_packet.specs.Bits.{is_set}
use Rattle.mctp_packet.specs.Refusals.{first_failing}
use Rattle.mctp_packet.specs.declared.reason.Reason.{Reason}
use Rattle.mctp_packet.specs.declared.reason.Reason.TheVariants.{NotPldm, Integrity, ShortHeader}
use Rattle.mctp_packet.specs.declared.reason.Reason.TheVariants.{BadPldmHeader, Datagram}
use Rattle.pldm_wire.specs.Kinds.{TypeAndCommand, of_type}
use Rattle.pldm_wire.specs.declared.assigned.TheConstants.{INSTANCE_IDS, MESSAGE_TYPE}

-- a header of so many bytes, whose Rq bit has to be this one, or is wrong for this reason
abbrev pub checks : ℕ → ℕ → Reason → List ℕ → List (Bool × Reason)
checks size rq wrong bytes =
    (length bytes == 0, ShortHeader)
    ∷ (not (slice_index bytes 0 % 128 == MESSAGE_TYPE), NotPldm)
    ∷ (is_set (slice_index bytes 0) 7, Integrity)
    ∷ (nat_lt (length bytes) size, ShortHeader)
    ∷ (not (slice_index bytes 2 / 64 == 0), BadPldmHeader)
    ∷ (not (slice_index bytes 1 / 128 == rq), wrong)
    ∷ (is_set (slice_index bytes 1) 6, Datagram)
    ∷ []

abbrev pub refusal : ℕ → ℕ → Reason → List ℕ → Option Reason
refusal size rq wrong bytes = first_failing (checks size rq wrong bytes)

-- the instance ID: bits 4:0 of byte 1
abbrev pub id_at : List ℕ → ℕ
id_at bytes = slice_index bytes 1 % INSTANCE_IDS

-- the PLDM type, bits 5:0 of byte 2, and the command, byte 3
abbrev pub kind_at : List ℕ → TypeAndCommand
kind_at bytes = of_type (slice_index bytes 2 % 64) (slice_index bytes 3)
