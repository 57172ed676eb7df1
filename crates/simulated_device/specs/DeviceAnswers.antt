-- What the simulated device answers to each command, and the state that follows.
use Rattle.pldm_wire.specs.declared.command.Command.{Command}
use Rattle.pldm_wire.specs.declared.command.Command.TheVariants.{SetTid, GetTid, GetPldmVersion, GetPldmTypes, GetPldmCommands, GetSensorReading, GetStateSensorReadings, SetNumericEffecterValue, GetNumericEffecterValue, SetStateEffecterStates, GetStateEffecterStates, GetPdrRepositoryInfo, GetPdr}
use Rattle.pldm_wire.specs.declared.answer.Answer.{Answer}
use Rattle.pldm_wire.specs.declared.answer.Answer.TheVariants as answers
use Rattle.pldm_records.specs.ById.{with_id}
use Rattle.pldm_platform.specs.Changes.{changed_or}
use Rattle.simulated_device.specs.Devices.{Device}
use Rattle.simulated_device.specs.BaseAnswers.{tid_set, version_answer, types, commands_answer}
use Rattle.simulated_device.specs.SensorAnswers.{numeric_sensor_answered, state_sensor_answered}
use Rattle.simulated_device.specs.EffecterAnswers.{number_set, states_set, outcome_answered}
use Rattle.simulated_device.specs.EffecterAnswers.{numeric_effecter_answered, state_effecter_answered}
use Rattle.pldm_records.specs.RecordAnswers.{record_answer, repository_info}

abbrev pub answer : Device → Command → Answer
answer device (SetTid tid) = outcome_answered answers.SetTid (tid_set tid device)
answer device GetTid = answers.GetTid device.tid
answer device (GetPldmVersion data_transfer_handle transfer_operation_flag pldm_type) =
    version_answer transfer_operation_flag pldm_type device
answer device GetPldmTypes = answers.GetPldmTypes types
answer device (GetPldmCommands pldm_type version) = commands_answer pldm_type
answer device (GetSensorReading sensor rearm) = numeric_sensor_answered (with_id sensor device.numeric_sensors)
answer device (GetStateSensorReadings sensor rearm) = state_sensor_answered (with_id sensor device.state_sensors)
answer device (SetNumericEffecterValue effecter value) =
    outcome_answered answers.SetNumericEffecterValue (number_set effecter value device)
answer device (GetNumericEffecterValue effecter) = numeric_effecter_answered (with_id effecter device.numeric_effecters)
answer device (SetStateEffecterStates effecter fields) =
    outcome_answered answers.SetStateEffecterStates (states_set effecter fields device)
answer device (GetStateEffecterStates effecter) = state_effecter_answered (with_id effecter device.state_effecters)
answer device GetPdrRepositoryInfo = repository_info device.update_time device.oem_update_time device.records
answer device (GetPdr record_handle data_transfer_handle transfer_operation_flag request_count record_change_number) =
    record_answer record_handle data_transfer_handle transfer_operation_flag request_count device.records

-- only the commands that set change the device, and a refused one does not
abbrev pub after : Device → Command → Device
after device (SetTid tid) = changed_or device (tid_set tid device)
after device (SetNumericEffecterValue effecter value) = changed_or device (number_set effecter value device)
after device (SetStateEffecterStates effecter fields) = changed_or device (states_set effecter fields device)
after device _ = device
