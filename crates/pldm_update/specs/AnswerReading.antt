-- The answer that a completion code and data are, or why they are none: the rows, by which a layout's values make an
-- answer again.
use Rattle.std.specs.Prelude.{ℕ, ◌==◌, List, Result, Ok, Err, if◌then◌else◌}
use Rattle.pldm_wire.specs.declared.assigned.TheConstants.{SUCCESS}
use Rattle.pldm_update.specs.Layouts.{End, Identifiers, Parameters}
use Rattle.pldm_update.specs.FieldReading.{Row, row, read_row}
use Rattle.pldm_update.specs.Answers.{request_update_answer, pass_component_table_answer, update_component_answer}
use Rattle.pldm_update.specs.Answers.{request_firmware_data_answer, activate_firmware_answer, get_status_answer}
use Rattle.pldm_update.specs.Answers.{cancel_update_answer}
use Rattle.pldm_update.specs.declared.assigned.TheConstants.{QUERY_DEVICE_IDENTIFIERS, GET_FIRMWARE_PARAMETERS}
use Rattle.pldm_update.specs.declared.assigned.TheConstants.{REQUEST_UPDATE, PASS_COMPONENT_TABLE, UPDATE_COMPONENT}
use Rattle.pldm_update.specs.declared.assigned.TheConstants.{REQUEST_FIRMWARE_DATA, TRANSFER_COMPLETE, VERIFY_COMPLETE}
use Rattle.pldm_update.specs.declared.assigned.TheConstants.{APPLY_COMPLETE, ACTIVATE_FIRMWARE, GET_STATUS}
use Rattle.pldm_update.specs.declared.assigned.TheConstants.{CANCEL_UPDATE_COMPONENT, CANCEL_UPDATE}
use Rattle.pldm_update.specs.declared.answer.UpdateAnswer.{UpdateAnswer}
use Rattle.pldm_update.specs.declared.answer.UpdateAnswer.TheVariants.{Refused, QueryDeviceIdentifiers, GetFirmwareParameters}
use Rattle.pldm_update.specs.declared.answer.UpdateAnswer.TheVariants.{RequestUpdate, PassComponentTable}
use Rattle.pldm_update.specs.declared.answer.UpdateAnswer.TheVariants.{UpdateComponent, RequestFirmwareData}
use Rattle.pldm_update.specs.declared.answer.UpdateAnswer.TheVariants.{TransferComplete, VerifyComplete, ApplyComplete}
use Rattle.pldm_update.specs.declared.answer.UpdateAnswer.TheVariants.{ActivateFirmware, GetStatus}
use Rattle.pldm_update.specs.declared.answer.UpdateAnswer.TheVariants.{CancelUpdateComponent, CancelUpdate}
use Rattle.pldm_update.specs.declared.fault.UpdateFault.{UpdateFault}
use Rattle.pldm_update.specs.declared.fault.UpdateFault.TheVariants.{OtherCommand}

-- an answer with no data
abbrev pub empty_answer : UpdateAnswer → Row UpdateAnswer
empty_answer answer = row End (λ _. answer)

abbrev pub query_device_identifiers_answer_row : Row UpdateAnswer
query_device_identifiers_answer_row = row Identifiers (λ descriptors. QueryDeviceIdentifiers descriptors)

abbrev pub get_firmware_parameters_answer_row : Row UpdateAnswer
get_firmware_parameters_answer_row = row Parameters (λ parameters. GetFirmwareParameters parameters)

abbrev pub request_update_answer_row : Row UpdateAnswer
request_update_answer_row = row request_update_answer (λ v. RequestUpdate v.0 v.1.0)

abbrev pub pass_component_table_answer_row : Row UpdateAnswer
pass_component_table_answer_row = row pass_component_table_answer (λ v. PassComponentTable v.0 v.1.0)

abbrev pub update_component_answer_row : Row UpdateAnswer
update_component_answer_row = row update_component_answer (λ v. UpdateComponent v.0 v.1.0 v.1.1.0 v.1.1.1.0)

abbrev pub request_firmware_data_answer_row : Row UpdateAnswer
request_firmware_data_answer_row = row request_firmware_data_answer (λ piece. RequestFirmwareData piece)

abbrev pub activate_firmware_answer_row : Row UpdateAnswer
activate_firmware_answer_row = row activate_firmware_answer (λ v. ActivateFirmware v.0)

abbrev pub get_status_answer_row : Row UpdateAnswer
get_status_answer_row =
    row get_status_answer
    (λ v. GetStatus v.0 v.1.0 v.1.1.0 v.1.1.1.0 v.1.1.1.1.0 v.1.1.1.1.1.0 v.1.1.1.1.1.1.0)

abbrev pub cancel_update_answer_row : Row UpdateAnswer
cancel_update_answer_row = row cancel_update_answer (λ v. CancelUpdate v.0 v.1.0)

-- the answer of a success to the command of this number
unfoldable pub update_success_of : ℕ → List ℕ → Result UpdateAnswer UpdateFault
update_success_of number bytes =
    if number == QUERY_DEVICE_IDENTIFIERS then read_row query_device_identifiers_answer_row bytes
    else if number == GET_FIRMWARE_PARAMETERS then read_row get_firmware_parameters_answer_row bytes
    else if number == REQUEST_UPDATE then read_row request_update_answer_row bytes
    else if number == PASS_COMPONENT_TABLE then read_row pass_component_table_answer_row bytes
    else if number == UPDATE_COMPONENT then read_row update_component_answer_row bytes
    else if number == REQUEST_FIRMWARE_DATA then read_row request_firmware_data_answer_row bytes
    else if number == TRANSFER_COMPLETE then read_row (empty_answer TransferComplete) bytes
    else if number == VERIFY_COMPLETE then read_row (empty_answer VerifyComplete) bytes
    else if number == APPLY_COMPLETE then read_row (empty_answer ApplyComplete) bytes
    else if number == ACTIVATE_FIRMWARE then read_row activate_firmware_answer_row bytes
    else if number == GET_STATUS then read_row get_status_answer_row bytes
    else if number == CANCEL_UPDATE_COMPONENT then read_row (empty_answer CancelUpdateComponent) bytes
    else if number == CANCEL_UPDATE then read_row cancel_update_answer_row bytes
    else Err OtherCommand

-- what reading gives for a completion code and data; the data after another code than SUCCESS is ignored
abbrev pub update_answer_of : ℕ → ℕ → List ℕ → Result UpdateAnswer UpdateFault
update_answer_of number code bytes = if code == SUCCESS then update_success_of number bytes else Ok (Refused code)
