-- The table of commands, a row each: its type and number, its name in the standard, whether it sets something in the
-- terminus, and the data of its request and of its answer after a success (DSP0240, DSP0248).
use Rattle.std.specs.Prelude.{ℕ, ◌*◌, ◌-◌, ◌==◌, nat_le, ◌&&◌, Bool, true, false, List, [], ◌∷◌, codes}
use Rattle.pldm_wire.specs.EffecterNumbers.{two_numbers}
use Rattle.pldm_wire.specs.Kinds.{TypeAndCommand, of_type}
use Rattle.pldm_wire.specs.Layouts.{Shape, Byte, Number, SizeCode, Sized, Flag, Checksum, Bytes, Reserved, Sets}
use Rattle.pldm_wire.specs.Layouts.{SensorStates, EffecterStates, Layout, End, Rest, EndOr, Then, Values}
use Rattle.pldm_wire.specs.Numbers.{sized}
use Rattle.pldm_wire.specs.RecordParts.{part}
use Rattle.pldm_wire.specs.TransferFlags.{is_end}
use Rattle.pldm_wire.specs.Versions.{is_version_data}
use Rattle.pldm_wire.specs.declared.assigned.TheConstants.{BASE, PLATFORM, SET_TID, GET_TID, GET_PLDM_VERSION}
use Rattle.pldm_wire.specs.declared.assigned.TheConstants.{GET_PLDM_TYPES, GET_PLDM_COMMANDS, GET_SENSOR_READING}
use Rattle.pldm_wire.specs.declared.assigned.TheConstants.{GET_STATE_SENSOR_READINGS, SET_NUMERIC_EFFECTER_VALUE}
use Rattle.pldm_wire.specs.declared.assigned.TheConstants.{GET_NUMERIC_EFFECTER_VALUE, SET_STATE_EFFECTER_STATES}
use Rattle.pldm_wire.specs.declared.assigned.TheConstants.{GET_STATE_EFFECTER_STATES, GET_PDR_REPOSITORY_INFO, GET_PDR}
use Rattle.pldm_wire.specs.declared.assigned.TheConstants.{START_AND_END}
use Rattle.pldm_wire.specs.declared.limits.TheConstants.{VERSION_BYTES, TYPES_BYTES, COMMANDS_BYTES, TIME_BYTES}
use Rattle.pldm_wire.specs.declared.limits.TheConstants.{MAX_STATES, MAX_PART_BYTES}
use Rattle.pldm_wire.specs.declared.command.Command.{Command}
use Rattle.pldm_wire.specs.declared.command.Command.TheVariants as commands
use Rattle.pldm_wire.specs.declared.answer.Answer.{Answer}
use Rattle.pldm_wire.specs.declared.answer.Answer.TheVariants as answers

-- data: how many bytes there are at least, since fewer are a wrong length, whatever they are; its layout; and what the
-- layout's values make
pub record Data (A : Type 0) : Type 0 where
  pub least : ℕ
  pub layout : Layout
  pub make : Values layout → A

pub record Row : Type 0 where
  pub kind : TypeAndCommand
  pub name : List ℕ
  pub sets : Bool
  pub request : Data Command
  pub answer : Data Answer

-- a field that no later shape depends on
infixr 10 ◌▸◌
abbrev pub ◌▸◌ : Shape → Layout → Layout
shape ▸ layout = Then shape (λ _. layout)

abbrev pub data_of : {A : Type 0} → (layout : Layout) → (Values layout → A) → Data A
data_of layout make = record { least = 0; layout = layout; make = make }

abbrev pub data_from : {A : Type 0} → ℕ → (layout : Layout) → (Values layout → A) → Data A
data_from least layout make = record { least = least; layout = layout; make = make }

abbrev pub no_data : {A : Type 0} → A → Data A
no_data value = data_of End (λ _. value)

-- the shapes of any byte, and of any number of two and of four bytes
abbrev pub any : ℕ → Bool
any number = true

abbrev pub byte : Shape
byte = Byte any

abbrev pub u16 : Shape
u16 = Number 2 any

abbrev pub u32 : Shape
u32 = Number 4 any

-- a byte that counts the fields of a composite sensor or effecter
abbrev pub is_count : ℕ → Bool
is_count count = nat_le 1 count && nat_le count MAX_STATES

abbrev pub fits_part : ℕ → Bool
fits_part count = nat_le count MAX_PART_BYTES

-- terminus ID
abbrev pub set_tid : Row
set_tid = record {
  kind = of_type BASE SET_TID;
  name = codes "SetTID";
  sets = true;
  request = data_of (byte ▸ End) (λ v. commands.SetTid v.0);
  answer = no_data answers.SetTid;
}

abbrev pub get_tid : Row
get_tid = record {
  kind = of_type BASE GET_TID;
  name = codes "GetTID";
  sets = false;
  request = no_data commands.GetTid;
  answer = data_of (byte ▸ End) (λ v. answers.GetTid v.0);
}

-- transfer handle, operation, PLDM type; next transfer handle, transfer flag, versions
abbrev pub get_pldm_version : Row
get_pldm_version = record {
  kind = of_type BASE GET_PLDM_VERSION;
  name = codes "GetPLDMVersion";
  sets = false;
  request = data_of (u32 ▸ byte ▸ byte ▸ End) (λ v. commands.GetPldmVersion v.0 v.1.0 v.1.1.0);
  answer =
      data_of (u32 ▸ Byte (λ flag. flag == START_AND_END) ▸ Rest is_version_data)
      (λ v. answers.GetPldmVersion v.0 v.1.1);
}

-- a bit for each PLDM type
abbrev pub get_pldm_types : Row
get_pldm_types = record {
  kind = of_type BASE GET_PLDM_TYPES;
  name = codes "GetPLDMTypes";
  sets = false;
  request = no_data commands.GetPldmTypes;
  answer = data_of (Bytes TYPES_BYTES ▸ End) (λ v. answers.GetPldmTypes v.0);
}

-- PLDM type, version; a bit for each command
abbrev pub get_pldm_commands : Row
get_pldm_commands = record {
  kind = of_type BASE GET_PLDM_COMMANDS;
  name = codes "GetPLDMCommands";
  sets = false;
  request = data_of (byte ▸ Bytes VERSION_BYTES ▸ End) (λ v. commands.GetPldmCommands v.0 v.1.0);
  answer = data_of (Bytes COMMANDS_BYTES ▸ End) (λ v. answers.GetPldmCommands v.0);
}

-- sensor, rearm; data size, operational state, event enable, present, previous and event state, reading
abbrev pub get_sensor_reading : Row
get_sensor_reading = record {
  kind = of_type PLATFORM GET_SENSOR_READING;
  name = codes "GetSensorReading";
  sets = false;
  request = data_of (u16 ▸ byte ▸ End) (λ v. commands.GetSensorReading v.0 v.1.0);
  answer =
      data_from 6 (Then SizeCode (λ size. byte ▸ byte ▸ byte ▸ byte ▸ byte ▸ Sized size ▸ End))
      (λ v. answers.GetSensorReading v.1.0 v.1.1.0 v.1.1.1.0 v.1.1.1.1.0 v.1.1.1.1.1.0 (sized v.0 v.1.1.1.1.1.1.0));
}

-- sensor, rearm; as many fields as are counted
abbrev pub get_state_sensor_readings : Row
get_state_sensor_readings = record {
  kind = of_type PLATFORM GET_STATE_SENSOR_READINGS;
  name = codes "GetStateSensorReadings";
  sets = false;
  request = data_of (u16 ▸ byte ▸ Reserved ▸ End) (λ v. commands.GetStateSensorReadings v.0 v.1.0);
  answer =
      data_of (Then (Byte is_count) (λ count. SensorStates count ▸ End)) (λ v. answers.GetStateSensorReadings v.1.0);
}

-- effecter, data size, value
abbrev pub set_numeric_effecter_value : Row
set_numeric_effecter_value = record {
  kind = of_type PLATFORM SET_NUMERIC_EFFECTER_VALUE;
  name = codes "SetNumericEffecterValue";
  sets = true;
  request =
      data_from 4 (u16 ▸ Then SizeCode (λ size. Sized size ▸ End))
      (λ v. commands.SetNumericEffecterValue v.0 (sized v.1.0 v.1.1.0));
  answer = no_data answers.SetNumericEffecterValue;
}

-- effecter; data size, operational state, pending and present value
abbrev pub get_numeric_effecter_value : Row
get_numeric_effecter_value = record {
  kind = of_type PLATFORM GET_NUMERIC_EFFECTER_VALUE;
  name = codes "GetNumericEffecterValue";
  sets = false;
  request = data_of (u16 ▸ End) (λ v. commands.GetNumericEffecterValue v.0);
  answer =
      data_from 2 (Then SizeCode (λ size. byte ▸ Sized size ▸ Sized size ▸ End))
      (λ v. answers.GetNumericEffecterValue v.1.0 (two_numbers (sized v.0 v.1.1.0) (sized v.0 v.1.1.1.0)));
}

-- effecter, as many fields as are counted; in the form with all eight fields those past the count are ignored
abbrev pub set_state_effecter_states : Row
set_state_effecter_states = record {
  kind = of_type PLATFORM SET_STATE_EFFECTER_STATES;
  name = codes "SetStateEffecterStates";
  sets = true;
  request =
      data_of (u16 ▸ Then (Byte is_count) (λ count. Sets count ▸ EndOr (2 * (MAX_STATES - count))))
      (λ v. commands.SetStateEffecterStates v.0 v.1.1.0);
  answer = no_data answers.SetStateEffecterStates;
}

-- effecter; as many fields as are counted
abbrev pub get_state_effecter_states : Row
get_state_effecter_states = record {
  kind = of_type PLATFORM GET_STATE_EFFECTER_STATES;
  name = codes "GetStateEffecterStates";
  sets = false;
  request = data_of (u16 ▸ End) (λ v. commands.GetStateEffecterStates v.0);
  answer =
      data_of (Then (Byte is_count) (λ count. EffecterStates count ▸ End)) (λ v. answers.GetStateEffecterStates v.1.0);
}

-- state, update time, OEM update time, record count, repository size, largest record, timeout
abbrev pub get_pdr_repository_info : Row
get_pdr_repository_info = record {
  kind = of_type PLATFORM GET_PDR_REPOSITORY_INFO;
  name = codes "GetPDRRepositoryInfo";
  sets = false;
  request = no_data commands.GetPdrRepositoryInfo;
  answer =
      data_of (byte ▸ Bytes TIME_BYTES ▸ Bytes TIME_BYTES ▸ u32 ▸ u32 ▸ u32 ▸ byte ▸ End)
      (λ v. answers.GetPdrRepositoryInfo v.0 v.1.0 v.1.1.0 v.1.1.1.0 v.1.1.1.1.0 v.1.1.1.1.1.0 v.1.1.1.1.1.1.0);
}

-- record handle, transfer handle, operation, request count, change number; next record handle, next transfer handle,
-- transfer flag, response count, as many bytes, and after the last of several parts the checksum
abbrev pub get_pdr : Row
get_pdr = record {
  kind = of_type PLATFORM GET_PDR;
  name = codes "GetPDR";
  sets = false;
  request = data_of (u32 ▸ u32 ▸ byte ▸ u16 ▸ u16 ▸ End) (λ v. commands.GetPdr v.0 v.1.0 v.1.1.0 v.1.1.1.0 v.1.1.1.1.0);
  answer =
      data_from 11
      (u32 ▸ u32 ▸ Then Flag (λ flag. Then (Number 2 fits_part) (λ count. Bytes count ▸ Checksum (is_end flag) ▸ End)))
      (λ v. answers.GetPdr v.0 v.1.0 (part v.1.1.0 v.1.1.1.1.0 v.1.1.1.1.1.0));
}

-- the commands of messaging control and discovery (DSP0240)
abbrev pub base_rows : List Row
base_rows = set_tid ∷ get_tid ∷ get_pldm_version ∷ get_pldm_types ∷ get_pldm_commands ∷ []

-- the commands of platform monitoring and control (DSP0248)
abbrev pub platform_rows : List Row
platform_rows =
    get_sensor_reading ∷ get_state_sensor_readings ∷ set_numeric_effecter_value ∷ get_numeric_effecter_value
    ∷ set_state_effecter_states ∷ get_state_effecter_states ∷ get_pdr_repository_info ∷ get_pdr ∷ []
