-- The command that is read has its fields in the data, every command whose fields stand there is read, and what a
-- command is written with has its fields.
use Rattle.std.proofs.Common.{◌≡◌, ℕ, ◌≤◌, ◌==◌, List, [], ◌∷◌, length, Ok, Err, IfOk, if◌then◌else◌, refl, sym, subst, ap, arith, eqb-true, length-append}
use Rattle.pldm_wire.specs.CommandReading.{request_in, request_by, command_of}
use Rattle.pldm_wire.specs.CommandTable.{Row, base_rows, platform_rows, set_tid, get_tid, get_pldm_version, get_pldm_types, get_pldm_commands, get_sensor_reading, get_state_sensor_readings, set_numeric_effecter_value, get_numeric_effecter_value, set_state_effecter_states, get_state_effecter_states, get_pdr_repository_info, get_pdr}
use Rattle.pldm_wire.specs.Commands.{CommandFields, IsCommand, CommandEntry, entry, EntryInRange, EntryStands, entry_bytes, command_data, kind_of, entry_of}
use Rattle.pldm_wire.specs.Kinds.{TypeAndCommand, IsKind, of_type}
use Rattle.pldm_wire.specs.Layouts.{Values, StandIn}
use Rattle.pldm_wire.specs.Sizes.{width}
use Rattle.pldm_wire.specs.declared.assigned.TheConstants.{BASE, PLATFORM, ERROR_INVALID_LENGTH, ERROR_INVALID_DATA, ERROR_INVALID_PLDM_TYPE}
use Rattle.pldm_wire.specs.declared.command.Command.{Command}
use Rattle.pldm_wire.specs.declared.command.Command.TheVariants.{SetTid, GetTid, GetPldmVersion, GetPldmTypes, GetPldmCommands, GetSensorReading, GetStateSensorReadings, SetNumericEffecterValue, GetNumericEffecterValue, SetStateEffecterStates, GetStateEffecterStates, GetPdrRepositoryInfo, GetPdr}
use Rattle.pldm_wire.specs.declared.size.Size.{Size}
use Rattle.pldm_wire.specs.declared.size.Size.TheVariants.{Uint8, Sint8, Uint16, Sint16, Uint32, Sint32}
use Rattle.pldm_wire.proofs.Cells.{by_test}
use Rattle.pldm_wire.proofs.FieldsRead.{values_written}
use Rattle.pldm_wire.proofs.RowsRead.{data_read, data_found}

-- what values of a request that stand in the bytes make is a command with these bytes
abbrev IsSound : Row → List ℕ → Type 0
IsSound row bytes =
    (v : Values row.request.layout) → StandIn row.request.layout v bytes → CommandFields (row.request.make v) row.kind bytes

abbrev AreSound : ℕ → List Row → List ℕ → Type 0
AreSound pldm_type [] bytes = Unit {0}
AreSound pldm_type (row ∷ rows) bytes = (row.kind.pldm_type ≡ pldm_type) × IsSound row bytes × AreSound pldm_type rows bytes

by_rows : (pldm_type : ℕ) (rows : List Row) (command : ℕ) (bytes : List ℕ) → AreSound pldm_type rows bytes
    → IfOk (request_by rows command bytes) (λ c. CommandFields c (of_type pldm_type command) bytes)
by_rows pldm_type [] command bytes h = tt
by_rows pldm_type (row ∷ rows) command bytes h =
    by_test (λ r. IfOk r (λ c. CommandFields c (of_type pldm_type command) bytes)) (command == row.kind.command) (request_in row bytes) (request_by rows command bytes)
    (λ e. let number : command ≡ row.kind.command = eqb-true command row.kind.command e in
    let found = data_found (λ c. CommandFields c row.kind bytes) ERROR_INVALID_LENGTH ERROR_INVALID_DATA row.request bytes h.1 in
    rw (number, sym h.0) found)
    (λ _. by_rows pldm_type rows command bytes h.2)

-- as many fields as were counted
counted_sets : (bytes : List ℕ) → IsSound set_state_effecter_states bytes
counted_sets bytes v h =
    record { kind_is = refl; fields = subst (λ (n : ℕ). StandIn set_state_effecter_states.request.layout (v.0, (n, (v.1.1.0, tt))) bytes) (sym h.3.3.2.0) h }

base_sound : (bytes : List ℕ) → AreSound BASE base_rows bytes
base_sound bytes = (
  refl,
  λ v h. record { kind_is = refl; fields = h },
  (
    refl,
    λ v h. record { kind_is = refl; fields = h },
    (
      refl,
      λ v h. record { kind_is = refl; fields = h },
      (
        refl,
        λ v h. record { kind_is = refl; fields = h },
        (
          refl,
          λ v h. record { kind_is = refl; fields = h },
          tt,
        ),
      ),
    ),
  ),
)

platform_sound : (bytes : List ℕ) → AreSound PLATFORM platform_rows bytes
platform_sound bytes = (
  refl,
  λ v h. record { kind_is = refl; fields = h },
  (
    refl,
    λ v h. record { kind_is = refl; fields = h },
    (
      refl,
      λ v h. record { kind_is = refl; fields = h },
      (
        refl,
        λ v h. record { kind_is = refl; fields = h },
        (
          refl,
          counted_sets bytes,
          (
            refl,
            λ v h. record { kind_is = refl; fields = h },
            (
              refl,
              λ v h. record { kind_is = refl; fields = h },
              (
                refl,
                λ v h. record { kind_is = refl; fields = h },
                tt,
              ),
            ),
          ),
        ),
      ),
    ),
  ),
)

sound : (pldm_type command : ℕ) (bytes : List ℕ)
    → IfOk (command_of (of_type pldm_type command) bytes) (λ c. CommandFields c (of_type pldm_type command) bytes)
unfolding command_of
sound pldm_type command bytes =
    by_test (λ r. IfOk r (λ c. CommandFields c (of_type pldm_type command) bytes)) (pldm_type == BASE) (request_by base_rows command bytes) (if pldm_type == PLATFORM then request_by platform_rows command bytes else Err ERROR_INVALID_PLDM_TYPE)
    (λ t. rw (eqb-true pldm_type BASE t) (by_rows BASE base_rows command bytes (base_sound bytes)))
    (λ _. by_test (λ r. IfOk r (λ c. CommandFields c (of_type pldm_type command) bytes)) (pldm_type == PLATFORM) (request_by platform_rows command bytes) (Err ERROR_INVALID_PLDM_TYPE)
    (λ t. rw (eqb-true pldm_type PLATFORM t) (by_rows PLATFORM platform_rows command bytes (platform_sound bytes)))
    (λ _. tt))

-- what reading finds has its fields in the bytes
pub found : (kind : TypeAndCommand) (bytes : List ℕ) → IfOk (command_of kind bytes) (λ c. CommandFields c kind bytes)
found kind bytes = sound kind.pldm_type kind.command bytes

-- a request whose values stand in the bytes, none of them fewer than there have to be
request_read : (row : Row) (v : Values row.request.layout) (bytes : List ℕ) → row.request.least ≤ length bytes → StandIn row.request.layout v bytes
    → request_in row bytes ≡ Ok (row.request.make v)
request_read row v bytes enough h = data_read ERROR_INVALID_LENGTH ERROR_INVALID_DATA row.request v bytes enough h

pub some_width : (size : Size) → 1 ≤ width size
some_width Uint8 = omega arith
some_width Sint8 = omega arith
some_width Uint16 = omega arith
some_width Sint16 = omega arith
some_width Uint32 = omega arith
some_width Sint32 = omega arith

enough_for_value : (v : Values set_numeric_effecter_value.request.layout) (bytes : List ℕ) → StandIn set_numeric_effecter_value.request.layout v bytes → 4 ≤ length bytes
enough_for_value v bytes h =
    let code = h.3 in
    let number = code.3 in
    omega (arith, ap length h.4, length-append h.0 h.1, h.2.0.0, ap length code.4, length-append code.0 code.1, ap length code.2, ap length number.4, length-append number.0 number.1, number.2.0, some_width v.1.0)

-- every command whose fields stand in the bytes is read
pub only : (c : Command) (kind : TypeAndCommand) (bytes : List ℕ) → CommandFields c kind bytes → command_of kind bytes ≡ Ok c
unfolding command_of
only (SetTid a) kind bytes h = rw h.kind_is (request_read set_tid (a, tt) bytes (omega arith) h.fields)
only GetTid kind bytes h = rw h.kind_is (request_read get_tid tt bytes (omega arith) h.fields)
only (GetPldmVersion a b c) kind bytes h = rw h.kind_is (request_read get_pldm_version (a, (b, (c, tt))) bytes (omega arith) h.fields)
only GetPldmTypes kind bytes h = rw h.kind_is (request_read get_pldm_types tt bytes (omega arith) h.fields)
only (GetPldmCommands a b) kind bytes h = rw h.kind_is (request_read get_pldm_commands (a, (b, tt)) bytes (omega arith) h.fields)
only (GetSensorReading a b) kind bytes h = rw h.kind_is (request_read get_sensor_reading (a, (b, tt)) bytes (omega arith) h.fields)
only (GetStateSensorReadings a b) kind bytes h = rw h.kind_is (request_read get_state_sensor_readings (a, (b, (tt, tt))) bytes (omega arith) h.fields)
only (SetNumericEffecterValue a b) kind bytes h =
    rw h.kind_is (request_read set_numeric_effecter_value (a, (b.size, (b.value, tt))) bytes (enough_for_value (a, (b.size, (b.value, tt))) bytes h.fields) h.fields)
only (GetNumericEffecterValue a) kind bytes h = rw h.kind_is (request_read get_numeric_effecter_value (a, tt) bytes (omega arith) h.fields)
only (SetStateEffecterStates a b) kind bytes h = rw h.kind_is (request_read set_state_effecter_states (a, (length b, (b, tt))) bytes (omega arith) h.fields)
only (GetStateEffecterStates a) kind bytes h = rw h.kind_is (request_read get_state_effecter_states (a, tt) bytes (omega arith) h.fields)
only GetPdrRepositoryInfo kind bytes h = rw h.kind_is (request_read get_pdr_repository_info tt bytes (omega arith) h.fields)
only (GetPdr a b c d e) kind bytes h = rw h.kind_is (request_read get_pdr (a, (b, (c, (d, (e, tt))))) bytes (omega arith) h.fields)

-- no bytes have the fields of two commands of one kind
pub one : (c d : Command) (kind : TypeAndCommand) (bytes : List ℕ) → CommandFields c kind bytes → CommandFields d kind bytes → c ≡ d
one c d kind bytes h g =
    let first = only c kind bytes h in
    let second = only d kind bytes g in
    cc

entry_written : (e : CommandEntry) → EntryInRange e → EntryStands e (entry_bytes e)
entry_written (entry row values) h = values_written row.request.layout values h

-- the data that a command is written with has its fields
pub written : (c : Command) → IsCommand c → CommandFields c (kind_of c) (command_data c)
written c h = record { kind_is = refl; fields = entry_written (entry_of c) h }

-- each command's PLDM type has six bits
pub kind_is : (c : Command) → IsKind (kind_of c)
kind_is (SetTid _) = omega arith
kind_is GetTid = omega arith
kind_is (GetPldmVersion _ _ _) = omega arith
kind_is GetPldmTypes = omega arith
kind_is (GetPldmCommands _ _) = omega arith
kind_is (GetSensorReading _ _) = omega arith
kind_is (GetStateSensorReadings _ _) = omega arith
kind_is (SetNumericEffecterValue _ _) = omega arith
kind_is (GetNumericEffecterValue _) = omega arith
kind_is (SetStateEffecterStates _ _) = omega arith
kind_is (GetStateEffecterStates _) = omega arith
kind_is GetPdrRepositoryInfo = omega arith
kind_is (GetPdr _ _ _ _ _) = omega arith
