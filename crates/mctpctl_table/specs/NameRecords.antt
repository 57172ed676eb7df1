-- The records of the auxiliary names of a sensor or an effecter, of any length (DSP0248, "Common PDR format", "Sensor
-- auxiliary names PDR" and "Effecter auxiliary names PDR").
use Rattle.std.specs.Prelude.{ℕ, ◌+◌, ◌-◌, ◌*◌, ◌==◌, nat_le, Bool, ◌&&◌, List, length, drop, slice_index, Option}
use Rattle.std.specs.Prelude.{None, Some, if◌then◌else◌}
use Rattle.pldm_pdr.specs.declared.limits.TheConstants.{RECORD_HEADER}
use Rattle.mctpctl_table.specs.declared.record_names.TheConstants.{HEADER_VERSION, SENSOR_NAMES, EFFECTER_NAMES}
use Rattle.mctpctl_table.specs.declared.record_names.TheConstants.{NAMES_PLACE}
use Rattle.mctpctl_table.specs.declared.identifier.Identifier.{Identifier}
use Rattle.mctpctl_table.specs.declared.identifier.Identifier.TheVariants.{Sensor, Effecter}

-- two bytes as a number, the lower one first
abbrev pub number_at : List ℕ → ℕ → ℕ
number_at bytes place = slice_index bytes place + 256 * slice_index bytes (place + 1)

-- a header of this type, which counts the bytes after it
abbrev pub has_header : ℕ → List ℕ → Bool
has_header type_number bytes =
    (slice_index bytes 4 == HEADER_VERSION) && (slice_index bytes 5 == type_number)
    && (number_at bytes 8 == length bytes - RECORD_HEADER)

-- after it the handle of a terminus, and an ID
abbrev pub is_for : ℕ → ℕ → List ℕ → Bool
is_for terminus id bytes = (number_at bytes 10 == terminus) && (number_at bytes 12 == id)

abbrev pub is_names_record : Identifier → List ℕ → Bool
is_names_record (Sensor terminus id) bytes = has_header SENSOR_NAMES bytes && is_for terminus id bytes
is_names_record (Effecter terminus id) bytes = has_header EFFECTER_NAMES bytes && is_for terminus id bytes

-- the names of a sensor or an effecter, where a record's bytes have them
unfoldable pub names_of : Identifier → List ℕ → Option (List ℕ)
names_of identifier bytes =
    if nat_le NAMES_PLACE (length bytes) && is_names_record identifier bytes then Some (drop NAMES_PLACE bytes) else None
