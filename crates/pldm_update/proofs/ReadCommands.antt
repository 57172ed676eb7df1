-- The command that is read has its fields in the data, every command whose fields stand there is read, and what a
-- command is written as has its fields.
use Rattle.std.proofs.Common.{◌≡◌, ℕ, ◌==◌, List, Result, Ok, Err, IfOk, if◌then◌else◌, refl, ap, eqb-true}
use Rattle.pldm_wire.proofs.Cells.{by_test}
use Rattle.pldm_update.specs.Commands.{number_of, fields_of, command_data, IsUpdateCommand, UpdateCommandFields}
use Rattle.pldm_update.specs.CommandReading.{no_data, request_update_row, pass_component_table_row, update_component_row, request_firmware_data_row, one_byte_row, apply_complete_row, update_command_of, or_code}
use Rattle.pldm_update.specs.Layouts.{Values, StandIn}
use Rattle.pldm_update.specs.FieldReading.{Row, read_row}
use Rattle.pldm_update.specs.declared.assigned.TheConstants.{QUERY_DEVICE_IDENTIFIERS, GET_FIRMWARE_PARAMETERS, REQUEST_UPDATE, PASS_COMPONENT_TABLE, UPDATE_COMPONENT, REQUEST_FIRMWARE_DATA, TRANSFER_COMPLETE, VERIFY_COMPLETE, APPLY_COMPLETE, ACTIVATE_FIRMWARE, GET_STATUS, CANCEL_UPDATE_COMPONENT, CANCEL_UPDATE}
use Rattle.pldm_update.specs.declared.command.UpdateCommand.{UpdateCommand}
use Rattle.pldm_update.specs.declared.command.UpdateCommand.TheVariants.{QueryDeviceIdentifiers, GetFirmwareParameters, RequestUpdate, PassComponentTable, UpdateComponent, RequestFirmwareData, TransferComplete, VerifyComplete, ApplyComplete, ActivateFirmware, GetStatus, CancelUpdateComponent, CancelUpdate}
use Rattle.pldm_update.specs.declared.fault.UpdateFault.{UpdateFault}
use Rattle.pldm_update.proofs.FieldsRead.{values_written}
use Rattle.pldm_update.proofs.RowsRead.{row_read, row_found}

-- what was read, if anything, is a command of this number with these bytes
abbrev Sound : ℕ → List ℕ → Result UpdateCommand UpdateFault → Type 0
Sound number bytes r = IfOk r (λ c. UpdateCommandFields c number bytes)

-- one row of the reader, and what comes after it
row_or : (row_number number : ℕ) (bytes : List ℕ) (r : Row UpdateCommand) (other : Result UpdateCommand UpdateFault)
    → ((v : Values r.layout) → StandIn r.layout v bytes → UpdateCommandFields (r.make v) row_number bytes)
    → Sound number bytes other → Sound number bytes (if number == row_number then read_row r bytes else other)
row_or row_number number bytes r other made h =
    by_test (Sound number bytes) (number == row_number) (read_row r bytes) other
    (λ t. rw (eqb-true number row_number t) (row_found (λ c. UpdateCommandFields c row_number bytes) r bytes made)) (λ _. h)

-- what reading finds has its fields in the data
pub found : (number : ℕ) (bytes : List ℕ) → IfOk (update_command_of number bytes) (λ c. UpdateCommandFields c number bytes)
unfolding update_command_of
found number bytes =
    row_or QUERY_DEVICE_IDENTIFIERS number bytes (no_data QueryDeviceIdentifiers) _ (λ v h. record { number_is = refl; stand = h })
    (row_or GET_FIRMWARE_PARAMETERS number bytes (no_data GetFirmwareParameters) _ (λ v h. record { number_is = refl; stand = h })
    (row_or REQUEST_UPDATE number bytes request_update_row _ (λ v h. record { number_is = refl; stand = h })
    (row_or PASS_COMPONENT_TABLE number bytes pass_component_table_row _ (λ v h. record { number_is = refl; stand = h })
    (row_or UPDATE_COMPONENT number bytes update_component_row _ (λ v h. record { number_is = refl; stand = h })
    (row_or REQUEST_FIRMWARE_DATA number bytes request_firmware_data_row _ (λ v h. record { number_is = refl; stand = h })
    (row_or TRANSFER_COMPLETE number bytes (one_byte_row (λ result. TransferComplete result)) _ (λ v h. record { number_is = refl; stand = h })
    (row_or VERIFY_COMPLETE number bytes (one_byte_row (λ result. VerifyComplete result)) _ (λ v h. record { number_is = refl; stand = h })
    (row_or APPLY_COMPLETE number bytes apply_complete_row _ (λ v h. record { number_is = refl; stand = h })
    (row_or ACTIVATE_FIRMWARE number bytes (one_byte_row (λ flag. ActivateFirmware flag)) _ (λ v h. record { number_is = refl; stand = h })
    (row_or GET_STATUS number bytes (no_data GetStatus) _ (λ v h. record { number_is = refl; stand = h })
    (row_or CANCEL_UPDATE_COMPONENT number bytes (no_data CancelUpdateComponent) _ (λ v h. record { number_is = refl; stand = h })
    (row_or CANCEL_UPDATE number bytes (no_data CancelUpdate) _ (λ v h. record { number_is = refl; stand = h })
    tt))))))))))))

-- every command whose fields stand in the data is read
pub only : (c : UpdateCommand) (number : ℕ) (bytes : List ℕ) → UpdateCommandFields c number bytes → update_command_of number bytes ≡ Ok c
unfolding update_command_of
only QueryDeviceIdentifiers number bytes h = rw h.number_is (row_read (no_data QueryDeviceIdentifiers) tt bytes h.stand)
only GetFirmwareParameters number bytes h = rw h.number_is (row_read (no_data GetFirmwareParameters) tt bytes h.stand)
only (RequestUpdate a b c d e) number bytes h = rw h.number_is (row_read request_update_row (fields_of (RequestUpdate a b c d e)).values bytes h.stand)
only (PassComponentTable a b c d) number bytes h = rw h.number_is (row_read pass_component_table_row (fields_of (PassComponentTable a b c d)).values bytes h.stand)
only (UpdateComponent a b c d e) number bytes h = rw h.number_is (row_read update_component_row (fields_of (UpdateComponent a b c d e)).values bytes h.stand)
only (RequestFirmwareData a b) number bytes h = rw h.number_is (row_read request_firmware_data_row (a, (b, tt)) bytes h.stand)
only (TransferComplete a) number bytes h = rw h.number_is (row_read (one_byte_row (λ result. TransferComplete result)) (a, tt) bytes h.stand)
only (VerifyComplete a) number bytes h = rw h.number_is (row_read (one_byte_row (λ result. VerifyComplete result)) (a, tt) bytes h.stand)
only (ApplyComplete a b) number bytes h = rw h.number_is (row_read apply_complete_row (a, (b, tt)) bytes h.stand)
only (ActivateFirmware a) number bytes h = rw h.number_is (row_read (one_byte_row (λ flag. ActivateFirmware flag)) (a, tt) bytes h.stand)
only GetStatus number bytes h = rw h.number_is (row_read (no_data GetStatus) tt bytes h.stand)
only CancelUpdateComponent number bytes h = rw h.number_is (row_read (no_data CancelUpdateComponent) tt bytes h.stand)
only CancelUpdate number bytes h = rw h.number_is (row_read (no_data CancelUpdate) tt bytes h.stand)

-- the data that a command is written with has its fields
pub written : (c : UpdateCommand) → IsUpdateCommand c → UpdateCommandFields c (number_of c) (command_data c)
written c h = record { number_is = refl; stand = values_written (fields_of c).layout (fields_of c).values h }

-- the same with the faults' completion codes

coded : (P : UpdateCommand → Type 0) (r : Result UpdateCommand UpdateFault) → IfOk r P → IfOk (or_code r) P
coded P (Ok c) h = h
coded P (Err fault) h = tt

pub coded_found : (number : ℕ) (bytes : List ℕ) → IfOk (or_code (update_command_of number bytes)) (λ c. UpdateCommandFields c number bytes)
coded_found number bytes = coded (λ c. UpdateCommandFields c number bytes) (update_command_of number bytes) (found number bytes)

pub coded_only : (c : UpdateCommand) (number : ℕ) (bytes : List ℕ) → UpdateCommandFields c number bytes → or_code (update_command_of number bytes) ≡ Ok c
coded_only c number bytes h = ap or_code (only c number bytes h)

-- no data has the fields of two commands of one number
pub one : (c d : UpdateCommand) (number : ℕ) (bytes : List ℕ) → UpdateCommandFields c number bytes → UpdateCommandFields d number bytes → c ≡ d
one c d number bytes h g =
    let first = only c number bytes h in
    let second = only d number bytes g in
    cc
