-- A worked table: from records and messages, spelled byte by byte, to text.
use Rattle.std.proofs.Common.{◌≡◌, ℕ, List, [], ◌∷◌, ◌++◌, codes, None, Some, refl}
use Rattle.std.specs.Char.{encode_utf8}
use Rattle.std.specs.Char.Utf16.{utf16_chars}
use Rattle.std.specs.Fmt.{digits}
use Rattle.mctpctl_decode.specs.UnitNames.{electric_unit_name, unit_name}
use Rattle.pldm_pdr.specs.Entities.{entity_at}
use Rattle.pldm_pdr.specs.Fields.{and_then, byte_at, flag_at, list_at, number_at, refused, signed_byte_at, size_at, sized_at}
use Rattle.pldm_pdr.specs.Measures.{conversion_at, units_at}
use Rattle.pldm_pdr.specs.NumericSensors.{numeric_sensor_at, sensor_range_at}
use Rattle.pldm_pdr.specs.RangeFormats.{format_at}
use Rattle.pldm_pdr.specs.StateSensors.{state_sensor_at}
use Rattle.pldm_pdr.specs.StateSets.{composite_at, possible_states_at, sets_at}
use Rattle.pldm_wire.specs.AnswerReading.{success_of}
use Rattle.pldm_wire.specs.Responses.{response_of}
use Rattle.mctpctl_table.specs.Decimals.{size_text}
use Rattle.mctpctl_table.specs.NameRecords.{names_of}
use Rattle.mctpctl_table.specs.Names.{name_text, units_text}
use Rattle.mctpctl_table.specs.Real32s.{real32_decimal, shortest}
use Rattle.mctpctl_table.specs.Rows.{data_rows, described_of, field_row, field_rows, name_cell, numeric_row, rows_of}
use Rattle.mctpctl_table.specs.States.{listed, operation_text, possible_from, present_text, state_value_text}
use Rattle.mctpctl_table.specs.Tables.{line, table_text}
use Rattle.mctpctl_table.specs.Units.{base_unit_text, degrees, is_shown, rate_name, unit_text}
use Rattle.mctpctl_table.specs.Values.{value_of, value_text}

-- sensor 5, state set 260 with the states 1 and 5
power : List ℕ
power = 4 ∷ 0 ∷ 0 ∷ 0 ∷ 1 ∷ 4 ∷ 0 ∷ 0 ∷ 17 ∷ 0 ∷ 1 ∷ 0 ∷ 5 ∷ 0 ∷ 64 ∷ 0 ∷ 1 ∷ 0 ∷ 0 ∷ 0 ∷ 0 ∷ 1 ∷ 1 ∷ 4 ∷ 1 ∷ 1 ∷ 34 ∷ []

-- its name
power_name : List ℕ
power_name =
    5 ∷ 0 ∷ 0 ∷ 0 ∷ 1 ∷ 6 ∷ 0 ∷ 0 ∷ 21 ∷ 0 ∷ 1 ∷ 0 ∷ 5 ∷ 0 ∷ 1 ∷ 1 ∷ 101 ∷ 110 ∷ 0 ∷ 0 ∷ 80 ∷ 0 ∷ 111 ∷ 0 ∷ 119 ∷ 0 ∷ 101
    ∷ 0 ∷ 114 ∷ 0 ∷ 0 ∷ []

-- enabled, in state 1
power_answer : List ℕ
power_answer = 1 ∷ 0 ∷ 2 ∷ 33 ∷ 0 ∷ 1 ∷ 0 ∷ 1 ∷ 1 ∷ 1 ∷ []

row : table_text (rows_of power (power_name ∷ []) (Some power_answer)) ≡ codes "sensor 5  Power  state 1 (set 260: 1, 5)  enabled\n"
unfolding power power_name power_answer described_of data_rows field_row field_rows name_cell names_of name_text units_text and_then byte_at flag_at list_at number_at refused entity_at state_sensor_at composite_at possible_states_at sets_at success_of response_of listed operation_text possible_from state_value_text line digits encode_utf8 utf16_chars
row = refl

-- no message came
silent : table_text (rows_of power [] None) ≡ codes "sensor 5  -  -  no answer\n"
unfolding power described_of data_rows field_row field_rows name_cell and_then byte_at flag_at list_at number_at refused entity_at state_sensor_at composite_at possible_states_at sets_at line digits
silent = refl

-- numeric sensor 2: tenths of a degree C, of two bytes
inlet : List ℕ
inlet =
    2 ∷ 0 ∷ 0 ∷ 0 ∷ 1 ∷ 2 ∷ 0 ∷ 0 ∷ 71 ∷ 0 ∷ 1 ∷ 0 ∷ 2 ∷ 0 ∷ 64 ∷ 0 ∷ 1 ∷ 0 ∷ 0 ∷ 0 ∷ 0 ∷ 1 ∷ 2 ∷ 255 ∷ 0 ∷ 0 ∷ 0 ∷ 0 ∷ 0 ∷ 0
    ∷ 0 ∷ 1 ∷ 3 ∷ 0 ∷ 0 ∷ 128 ∷ 63 ∷ 0 ∷ 0 ∷ 0 ∷ 0 ∷ 0 ∷ 0 ∷ 0 ∷ 0 ∷ 0 ∷ 0 ∷ 0 ∷ 0 ∷ 0 ∷ 0 ∷ 0 ∷ 0 ∷ 0 ∷ 0 ∷ 0 ∷ 0 ∷ 0 ∷ 0
    ∷ 0 ∷ 0 ∷ 3 ∷ 0 ∷ 0 ∷ 0 ∷ 0 ∷ 0 ∷ 0 ∷ 0 ∷ 0 ∷ 0 ∷ 0 ∷ 0 ∷ 0 ∷ 0 ∷ 0 ∷ 0 ∷ 0 ∷ 0 ∷ 0 ∷ 0 ∷ []

-- disabled, in the state upperWarning, 415
inlet_answer : List ℕ
inlet_answer = 1 ∷ 0 ∷ 2 ∷ 17 ∷ 0 ∷ 3 ∷ 1 ∷ 0 ∷ 8 ∷ 1 ∷ 8 ∷ 159 ∷ 1 ∷ []

warm : table_text (rows_of inlet (power_name ∷ []) (Some inlet_answer)) ≡ codes "sensor 2  -  41.5 " ++ degrees (codes "C  upperWarning, disabled\n")
unfolding power_name inlet inlet_answer described_of data_rows numeric_row name_cell names_of and_then byte_at signed_byte_at flag_at list_at number_at sized_at size_at refused entity_at units_at conversion_at sensor_range_at format_at numeric_sensor_at success_of response_of operation_text present_text line digits value_text value_of is_shown rate_name base_unit_text unit_text unit_name electric_unit_name real32_decimal shortest size_text
warm = refl
