-- The command that data is, or why it is none: the rows, by which a layout's values make a command again.
use Rattle.std.specs.Prelude.{ℕ, ◌==◌, List, Result, Ok, Err, if◌then◌else◌}
use Rattle.pldm_wire.specs.declared.assigned.TheConstants.{ERROR_INVALID_DATA, ERROR_INVALID_LENGTH}
use Rattle.pldm_wire.specs.declared.assigned.TheConstants.{ERROR_UNSUPPORTED_PLDM_CMD}
use Rattle.pldm_update.specs.Layouts.{End}
use Rattle.pldm_update.specs.FieldReading.{Row, row, read_row}
use Rattle.pldm_update.specs.Commands.{request_update, pass_component_table, update_component, request_firmware_data}
use Rattle.pldm_update.specs.Commands.{one_byte, apply_complete}
use Rattle.pldm_update.specs.declared.assigned.TheConstants.{QUERY_DEVICE_IDENTIFIERS, GET_FIRMWARE_PARAMETERS}
use Rattle.pldm_update.specs.declared.assigned.TheConstants.{REQUEST_UPDATE, PASS_COMPONENT_TABLE, UPDATE_COMPONENT}
use Rattle.pldm_update.specs.declared.assigned.TheConstants.{REQUEST_FIRMWARE_DATA, TRANSFER_COMPLETE, VERIFY_COMPLETE}
use Rattle.pldm_update.specs.declared.assigned.TheConstants.{APPLY_COMPLETE, ACTIVATE_FIRMWARE, GET_STATUS}
use Rattle.pldm_update.specs.declared.assigned.TheConstants.{CANCEL_UPDATE_COMPONENT, CANCEL_UPDATE}
use Rattle.pldm_update.specs.declared.component.Component.{Component}
use Rattle.pldm_update.specs.declared.command.UpdateCommand.{UpdateCommand}
use Rattle.pldm_update.specs.declared.command.UpdateCommand.TheVariants.{QueryDeviceIdentifiers, GetFirmwareParameters}
use Rattle.pldm_update.specs.declared.command.UpdateCommand.TheVariants.{RequestUpdate, PassComponentTable}
use Rattle.pldm_update.specs.declared.command.UpdateCommand.TheVariants.{UpdateComponent, RequestFirmwareData}
use Rattle.pldm_update.specs.declared.command.UpdateCommand.TheVariants.{TransferComplete, VerifyComplete}
use Rattle.pldm_update.specs.declared.command.UpdateCommand.TheVariants.{ApplyComplete, ActivateFirmware, GetStatus}
use Rattle.pldm_update.specs.declared.command.UpdateCommand.TheVariants.{CancelUpdateComponent, CancelUpdate}
use Rattle.pldm_update.specs.declared.fault.UpdateFault.{UpdateFault}
use Rattle.pldm_update.specs.declared.fault.UpdateFault.TheVariants.{OtherCommand, Length, Value}

abbrev pub component : ℕ → ℕ → ℕ → Component
component classification identifier index =
    record { classification = classification; identifier = identifier; index = index }

-- a command with no data
abbrev pub no_data : UpdateCommand → Row UpdateCommand
no_data command = row End (λ _. command)

abbrev pub request_update_row : Row UpdateCommand
request_update_row = row request_update (λ v. RequestUpdate v.0 v.1.0 v.1.1.0 v.1.1.1.0 v.1.1.1.1.0)

abbrev pub pass_component_table_row : Row UpdateCommand
pass_component_table_row =
    row pass_component_table
    (λ v. PassComponentTable v.0 (component v.1.0 v.1.1.0 v.1.1.1.0) v.1.1.1.1.0 v.1.1.1.1.1.0)

abbrev pub update_component_row : Row UpdateCommand
update_component_row =
    row update_component
    (λ v. UpdateComponent (component v.0 v.1.0 v.1.1.0) v.1.1.1.0 v.1.1.1.1.0 v.1.1.1.1.1.0 v.1.1.1.1.1.1.0)

abbrev pub request_firmware_data_row : Row UpdateCommand
request_firmware_data_row = row request_firmware_data (λ v. RequestFirmwareData v.0 v.1.0)

-- a command with one byte
abbrev pub one_byte_row : (ℕ → UpdateCommand) → Row UpdateCommand
one_byte_row make = row one_byte (λ v. make v.0)

abbrev pub apply_complete_row : Row UpdateCommand
apply_complete_row = row apply_complete (λ v. ApplyComplete v.0 v.1.0)

-- what the data of this command is
unfoldable pub update_command_of : ℕ → List ℕ → Result UpdateCommand UpdateFault
update_command_of number bytes =
    if number == QUERY_DEVICE_IDENTIFIERS then read_row (no_data QueryDeviceIdentifiers) bytes
    else if number == GET_FIRMWARE_PARAMETERS then read_row (no_data GetFirmwareParameters) bytes
    else if number == REQUEST_UPDATE then read_row request_update_row bytes
    else if number == PASS_COMPONENT_TABLE then read_row pass_component_table_row bytes
    else if number == UPDATE_COMPONENT then read_row update_component_row bytes
    else if number == REQUEST_FIRMWARE_DATA then read_row request_firmware_data_row bytes
    else if number == TRANSFER_COMPLETE then read_row (one_byte_row (λ result. TransferComplete result)) bytes
    else if number == VERIFY_COMPLETE then read_row (one_byte_row (λ result. VerifyComplete result)) bytes
    else if number == APPLY_COMPLETE then read_row apply_complete_row bytes
    else if number == ACTIVATE_FIRMWARE then read_row (one_byte_row (λ flag. ActivateFirmware flag)) bytes
    else if number == GET_STATUS then read_row (no_data GetStatus) bytes
    else if number == CANCEL_UPDATE_COMPONENT then read_row (no_data CancelUpdateComponent) bytes
    else if number == CANCEL_UPDATE then read_row (no_data CancelUpdate) bytes
    else Err OtherCommand

-- the completion code of a fault
abbrev pub code_of_fault : UpdateFault → ℕ
code_of_fault OtherCommand = ERROR_UNSUPPORTED_PLDM_CMD
code_of_fault Length = ERROR_INVALID_LENGTH
code_of_fault Value = ERROR_INVALID_DATA

abbrev pub or_code : Result UpdateCommand UpdateFault → Result UpdateCommand ℕ
or_code (Ok command) = Ok command
or_code (Err fault) = Err (code_of_fault fault)
