-- The simulated device keeps the laws of a platform.
use Rattle.std.specs.Prelude.{◌≡◌, ℕ, ◌+◌, ◌==◌, nat_lt, Bool, true, false, List}
use Rattle.std.specs.Prelude.{Option, Some, None, Result, Ok, Err, refl, slice_get, if◌then◌else◌}
use Rattle.pldm_wire.specs.Commands.{kind_of, sets}
use Rattle.pldm_wire.specs.Answers.{IsAnswerTo}
use Rattle.pldm_wire.specs.Kinds.{TypeAndCommand}
use Rattle.pldm_wire.specs.declared.command.Command.{Command}
use Rattle.pldm_wire.specs.declared.command.Command.TheVariants.{SetTid, GetTid, GetPldmVersion, GetPldmTypes, GetPldmCommands, GetSensorReading, GetStateSensorReadings, SetNumericEffecterValue, GetNumericEffecterValue, SetStateEffecterStates, GetStateEffecterStates, GetPdrRepositoryInfo, GetPdr}
use Rattle.pldm_wire.specs.declared.answer.Answer.{Answer}
use Rattle.pldm_wire.specs.declared.answer.Answer.TheVariants as answers
use Rattle.pldm_wire.specs.declared.assigned.TheConstants.{BASE, PLATFORM, ERROR_INVALID_DATA}
use Rattle.pldm_platform.specs.declared.refusals.TheConstants.{INVALID_TRANSFER_OPERATION}
use Rattle.pldm_platform.specs.declared.refusals.TheConstants.{INVALID_DATA_TRANSFER_HANDLE, INVALID_PLDM_TYPE}
use Rattle.pldm_wire.specs.declared.limits.TheConstants.{GET_FIRST_PART, GET_NEXT_PART}
use Rattle.pldm_records.specs.ById.{with_id}
use Rattle.pldm_platform.specs.Changes.{changed_or}
use Rattle.simulated_device.specs.Devices.{Device}
use Rattle.simulated_device.specs.BaseAnswers.{tid_set, versions_answered, versions_of, base_commands, platform_commands}
use Rattle.simulated_device.specs.SensorAnswers.{numeric_sensor_answered, state_sensor_answered}
use Rattle.simulated_device.specs.EffecterAnswers.{number_set, states_set, outcome_answered}
use Rattle.simulated_device.specs.EffecterAnswers.{numeric_effecter_answered, state_effecter_answered}
use Rattle.pldm_records.specs.Records.{handle_at, position_asked}
use Rattle.pldm_records.specs.RecordAnswers.{offset_asked, part_answered, record_answered, record_answer_at}
use Rattle.simulated_device.specs.DeviceAnswers.{answer, after}

pub reads_only : (device : Device) (command : Command) → sets command ≡ false → after device command ≡ device
reads_only device (SetTid tid) asks = cc
reads_only device (SetNumericEffecterValue effecter value) asks = cc
reads_only device (SetStateEffecterStates effecter fields) asks = cc
reads_only device GetTid asks = refl
reads_only device (GetPldmVersion transfer flag pldm_type) asks = refl
reads_only device GetPldmTypes asks = refl
reads_only device (GetPldmCommands pldm_type version) asks = refl
reads_only device (GetSensorReading sensor rearm) asks = refl
reads_only device (GetStateSensorReadings sensor rearm) asks = refl
reads_only device (GetNumericEffecterValue effecter) asks = refl
reads_only device (GetStateEffecterStates effecter) asks = refl
reads_only device GetPdrRepositoryInfo asks = refl
reads_only device (GetPdr handle transfer flag count change) asks = refl

-- an outcome that is answered as a refusal left the device as it was

set_tid_refused :
    (device : Device) (outcome : Result Device ℕ) (code : ℕ)
    → outcome_answered answers.SetTid outcome ≡ answers.Refused code → changed_or device outcome ≡ device
set_tid_refused device (Ok changed) code e = cc
set_tid_refused device (Err refusal) code e = refl

set_number_refused :
    (device : Device) (outcome : Result Device ℕ) (code : ℕ)
    → outcome_answered answers.SetNumericEffecterValue outcome ≡ answers.Refused code
    → changed_or device outcome ≡ device
set_number_refused device (Ok changed) code e = cc
set_number_refused device (Err refusal) code e = refl

set_states_refused :
    (device : Device) (outcome : Result Device ℕ) (code : ℕ)
    → outcome_answered answers.SetStateEffecterStates outcome ≡ answers.Refused code
    → changed_or device outcome ≡ device
set_states_refused device (Ok changed) code e = cc
set_states_refused device (Err refusal) code e = refl

pub refusal_changes_nothing :
    (device : Device) (command : Command) (code : ℕ)
    → answer device command ≡ answers.Refused code → after device command ≡ device
refusal_changes_nothing device (SetTid tid) code refused = set_tid_refused device (tid_set tid device) code refused
refusal_changes_nothing device (SetNumericEffecterValue effecter value) code refused =
    set_number_refused device (number_set effecter value device) code refused
refusal_changes_nothing device (SetStateEffecterStates effecter fields) code refused =
    set_states_refused device (states_set effecter fields device) code refused
refusal_changes_nothing device GetTid code refused = refl
refusal_changes_nothing device (GetPldmVersion transfer flag pldm_type) code refused = refl
refusal_changes_nothing device GetPldmTypes code refused = refl
refusal_changes_nothing device (GetPldmCommands pldm_type version) code refused = refl
refusal_changes_nothing device (GetSensorReading sensor rearm) code refused = refl
refusal_changes_nothing device (GetStateSensorReadings sensor rearm) code refused = refl
refusal_changes_nothing device (GetNumericEffecterValue effecter) code refused = refl
refusal_changes_nothing device (GetStateEffecterStates effecter) code refused = refl
refusal_changes_nothing device GetPdrRepositoryInfo code refused = refl
refusal_changes_nothing device (GetPdr handle transfer flag count change) code refused = refl

outcome_to :
    (kind : TypeAndCommand) (done : Answer) (outcome : Result Device ℕ)
    → IsAnswerTo kind done → IsAnswerTo kind (outcome_answered done outcome)
outcome_to kind done (Ok changed) h = h
outcome_to kind done (Err refusal) h = tt

versions_to :
    (transfer flag pldm_type : ℕ) (versions : Option (List ℕ))
    → IsAnswerTo (kind_of (GetPldmVersion transfer flag pldm_type)) (versions_answered versions)
versions_to transfer flag pldm_type None = tt
versions_to transfer flag pldm_type (Some versions) = refl

version_to :
    (transfer flag pldm_type : ℕ) (device : Device) (none first : Bool)
    → IsAnswerTo (kind_of (GetPldmVersion transfer flag pldm_type))
    (if none then answers.Refused INVALID_TRANSFER_OPERATION
    else if first then answers.Refused INVALID_DATA_TRANSFER_HANDLE
    else versions_answered (versions_of pldm_type device))
version_to transfer flag pldm_type device true first = tt
version_to transfer flag pldm_type device false true = tt
version_to transfer flag pldm_type device false false =
    versions_to transfer flag pldm_type (versions_of pldm_type device)

commands_to :
    (pldm_type : ℕ) (version : List ℕ) (base platform : Bool)
    → IsAnswerTo (kind_of (GetPldmCommands pldm_type version))
    (if base then answers.GetPldmCommands base_commands
    else if platform then answers.GetPldmCommands platform_commands
    else answers.Refused INVALID_PLDM_TYPE)
commands_to pldm_type version true platform = refl
commands_to pldm_type version false true = refl
commands_to pldm_type version false false = tt

part_to :
    (handle transfer flag count change next : ℕ) (pdr : List ℕ) (offset : Option ℕ)
    → IsAnswerTo (kind_of (GetPdr handle transfer flag count change)) (part_answered next count pdr offset)
part_to handle transfer flag count change next pdr None = tt
part_to handle transfer flag count change next pdr (Some offset) = refl

found_record_to :
    (handle transfer flag count change next : ℕ) (pdr : Option (List ℕ))
    → IsAnswerTo (kind_of (GetPdr handle transfer flag count change)) (record_answered next transfer flag count pdr)
found_record_to handle transfer flag count change next None = tt
found_record_to handle transfer flag count change next (Some pdr) =
    part_to handle transfer flag count change next pdr (offset_asked flag transfer pdr)

place_to :
    (handle transfer flag count change : ℕ) (records : List (List ℕ)) (place : Option ℕ)
    → IsAnswerTo (kind_of (GetPdr handle transfer flag count change))
    (record_answer_at transfer flag count records place)
place_to handle transfer flag count change records None = tt
place_to handle transfer flag count change records (Some place) =
    found_record_to handle transfer flag count change (handle_at (place + 1) records) (slice_get records place)

record_to :
    (handle transfer flag count change : ℕ) (records : List (List ℕ)) (nothing other : Bool)
    → IsAnswerTo (kind_of (GetPdr handle transfer flag count change))
    (if nothing then answers.Refused ERROR_INVALID_DATA
    else if other then answers.Refused INVALID_TRANSFER_OPERATION
    else record_answer_at transfer flag count records (position_asked handle records))
record_to handle transfer flag count change records true other = tt
record_to handle transfer flag count change records false true = tt
record_to handle transfer flag count change records false false =
    place_to handle transfer flag count change records (position_asked handle records)

pub answers_the_command : (device : Device) (command : Command) → IsAnswerTo (kind_of command) (answer device command)
answers_the_command device (SetTid tid) = outcome_to _ _ (tid_set tid device) refl
answers_the_command device GetTid = refl
answers_the_command device (GetPldmVersion transfer flag pldm_type) =
    version_to transfer flag pldm_type device (nat_lt GET_FIRST_PART flag) (flag == GET_NEXT_PART)
answers_the_command device GetPldmTypes = refl
answers_the_command device (GetPldmCommands pldm_type version) =
    commands_to pldm_type version (pldm_type == BASE) (pldm_type == PLATFORM)
answers_the_command device (GetSensorReading sensor rearm) =
    elim (with_id sensor device.numeric_sensors)
    as (λ found. IsAnswerTo (kind_of (GetSensorReading sensor rearm)) (numeric_sensor_answered found))
    [ None ↦ tt | Some x ↦ refl ]
answers_the_command device (GetStateSensorReadings sensor rearm) =
    elim (with_id sensor device.state_sensors)
    as (λ found. IsAnswerTo (kind_of (GetStateSensorReadings sensor rearm)) (state_sensor_answered found))
    [ None ↦ tt | Some x ↦ refl ]
answers_the_command device (SetNumericEffecterValue effecter value) =
    outcome_to _ _ (number_set effecter value device) refl
answers_the_command device (GetNumericEffecterValue effecter) =
    elim (with_id effecter device.numeric_effecters)
    as (λ found. IsAnswerTo (kind_of (GetNumericEffecterValue effecter)) (numeric_effecter_answered found))
    [ None ↦ tt | Some x ↦ refl ]
answers_the_command device (SetStateEffecterStates effecter fields) =
    outcome_to _ _ (states_set effecter fields device) refl
answers_the_command device (GetStateEffecterStates effecter) =
    elim (with_id effecter device.state_effecters)
    as (λ found. IsAnswerTo (kind_of (GetStateEffecterStates effecter)) (state_effecter_answered found))
    [ None ↦ tt | Some x ↦ refl ]
answers_the_command device GetPdrRepositoryInfo = refl
answers_the_command device (GetPdr handle transfer flag count change) =
    record_to handle transfer flag count change device.records (count == 0) (nat_lt GET_FIRST_PART flag)
