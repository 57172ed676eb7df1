-- The answer that is read has its fields in the completion code and the data, every answer whose fields stand there is
-- read, and what an answer is written as has its fields.
use Rattle.std.proofs.Common.{◌≡◌, ℕ, ◌<◌, ◌==◌, List, Result, Ok, IfOk, false, if◌then◌else◌, refl, arith, eqb-true}
use Rattle.std.proofs.lemmas.Bool.Decides.{nat_tests}
use Rattle.pldm_wire.specs.declared.assigned.TheConstants.{SUCCESS}
use Rattle.pldm_wire.proofs.Cells.{by_test}
use Rattle.pldm_update.specs.Answers.{answer_fields_of, answer_data, code_of, IsUpdateAnswer, IsAnswerTo, HasAnswerFields, UpdateAnswerFields}
use Rattle.pldm_update.specs.AnswerReading.{empty_answer, query_device_identifiers_answer_row, get_firmware_parameters_answer_row, request_update_answer_row, pass_component_table_answer_row, update_component_answer_row, request_firmware_data_answer_row, activate_firmware_answer_row, get_status_answer_row, cancel_update_answer_row, update_success_of, update_answer_of}
use Rattle.pldm_update.specs.Layouts.{Values, StandIn}
use Rattle.pldm_update.specs.FieldReading.{Row, read_row}
use Rattle.pldm_update.specs.declared.assigned.TheConstants.{QUERY_DEVICE_IDENTIFIERS, GET_FIRMWARE_PARAMETERS, REQUEST_UPDATE, PASS_COMPONENT_TABLE, UPDATE_COMPONENT, REQUEST_FIRMWARE_DATA, TRANSFER_COMPLETE, VERIFY_COMPLETE, APPLY_COMPLETE, ACTIVATE_FIRMWARE, GET_STATUS, CANCEL_UPDATE_COMPONENT, CANCEL_UPDATE}
use Rattle.pldm_update.specs.declared.answer.UpdateAnswer.{UpdateAnswer}
use Rattle.pldm_update.specs.declared.answer.UpdateAnswer.TheVariants.{Refused, QueryDeviceIdentifiers, GetFirmwareParameters, RequestUpdate, PassComponentTable, UpdateComponent, RequestFirmwareData, TransferComplete, VerifyComplete, ApplyComplete, ActivateFirmware, GetStatus, CancelUpdateComponent, CancelUpdate}
use Rattle.pldm_update.specs.declared.fault.UpdateFault.{UpdateFault}
use Rattle.pldm_update.proofs.FieldsRead.{values_written}
use Rattle.pldm_update.proofs.RowsRead.{row_read, row_found}

-- what was read of a success, if anything, is an answer to the command of this number with these bytes
abbrev Sound : ℕ → List ℕ → Result UpdateAnswer UpdateFault → Type 0
Sound number bytes r = IfOk r (λ a. UpdateAnswerFields a number SUCCESS bytes)

-- one row of the reader, and what comes after it
row_or : (row_number number : ℕ) (bytes : List ℕ) (r : Row UpdateAnswer) (other : Result UpdateAnswer UpdateFault)
    → ((v : Values r.layout) → StandIn r.layout v bytes → UpdateAnswerFields (r.make v) row_number SUCCESS bytes)
    → Sound number bytes other → Sound number bytes (if number == row_number then read_row r bytes else other)
row_or row_number number bytes r other made h =
    by_test (Sound number bytes) (number == row_number) (read_row r bytes) other
    (λ t. rw (eqb-true number row_number t) (row_found (λ a. UpdateAnswerFields a row_number SUCCESS bytes) r bytes made)) (λ _. h)

success_found : (number : ℕ) (bytes : List ℕ) → Sound number bytes (update_success_of number bytes)
unfolding update_success_of
success_found number bytes =
    row_or QUERY_DEVICE_IDENTIFIERS number bytes query_device_identifiers_answer_row _ (λ v h. record { answers = refl; stand = (refl, h) })
    (row_or GET_FIRMWARE_PARAMETERS number bytes get_firmware_parameters_answer_row _ (λ v h. record { answers = refl; stand = (refl, h) })
    (row_or REQUEST_UPDATE number bytes request_update_answer_row _ (λ v h. record { answers = refl; stand = (refl, h) })
    (row_or PASS_COMPONENT_TABLE number bytes pass_component_table_answer_row _ (λ v h. record { answers = refl; stand = (refl, h) })
    (row_or UPDATE_COMPONENT number bytes update_component_answer_row _ (λ v h. record { answers = refl; stand = (refl, h) })
    (row_or REQUEST_FIRMWARE_DATA number bytes request_firmware_data_answer_row _ (λ v h. record { answers = refl; stand = (refl, h) })
    (row_or TRANSFER_COMPLETE number bytes (empty_answer TransferComplete) _ (λ v h. record { answers = refl; stand = (refl, h) })
    (row_or VERIFY_COMPLETE number bytes (empty_answer VerifyComplete) _ (λ v h. record { answers = refl; stand = (refl, h) })
    (row_or APPLY_COMPLETE number bytes (empty_answer ApplyComplete) _ (λ v h. record { answers = refl; stand = (refl, h) })
    (row_or ACTIVATE_FIRMWARE number bytes activate_firmware_answer_row _ (λ v h. record { answers = refl; stand = (refl, h) })
    (row_or GET_STATUS number bytes get_status_answer_row _ (λ v h. record { answers = refl; stand = (refl, h) })
    (row_or CANCEL_UPDATE_COMPONENT number bytes (empty_answer CancelUpdateComponent) _ (λ v h. record { answers = refl; stand = (refl, h) })
    (row_or CANCEL_UPDATE number bytes cancel_update_answer_row _ (λ v h. record { answers = refl; stand = (refl, h) })
    tt))))))))))))

-- what reading finds has its fields in the code and the data
pub found : (number code : ℕ) (bytes : List ℕ) → code < 256 → IfOk (update_answer_of number code bytes) (λ a. UpdateAnswerFields a number code bytes)
found number code bytes range =
    by_test (λ (r : Result UpdateAnswer UpdateFault). IfOk r (λ a. UpdateAnswerFields a number code bytes)) (code == SUCCESS) (update_success_of number bytes) (Ok (Refused code))
    (λ t. rw (eqb-true code SUCCESS t) (success_found number bytes))
    (λ t. record { answers = tt; stand = (refl, (grind (arith, nat_tests), omega arith)) })

-- every answer whose fields stand in the code and the data is read
pub only : (a : UpdateAnswer) (number code : ℕ) (bytes : List ℕ) → UpdateAnswerFields a number code bytes → update_answer_of number code bytes ≡ Ok a
unfolding update_success_of
only (Refused refusal) number code bytes h =
    let other : (refusal == SUCCESS) ≡ false = grind (arith, nat_tests, h.stand.1.0) in
    rw (h.stand.0, other) refl
only (QueryDeviceIdentifiers a) number code bytes h = rw (h.stand.0, h.answers) (row_read query_device_identifiers_answer_row a bytes h.stand.1)
only (GetFirmwareParameters a) number code bytes h = rw (h.stand.0, h.answers) (row_read get_firmware_parameters_answer_row a bytes h.stand.1)
only (RequestUpdate a b) number code bytes h = rw (h.stand.0, h.answers) (row_read request_update_answer_row (a, (b, tt)) bytes h.stand.1)
only (PassComponentTable a b) number code bytes h = rw (h.stand.0, h.answers) (row_read pass_component_table_answer_row (a, (b, tt)) bytes h.stand.1)
only (UpdateComponent a b c d) number code bytes h = rw (h.stand.0, h.answers) (row_read update_component_answer_row (a, (b, (c, (d, tt)))) bytes h.stand.1)
only (RequestFirmwareData a) number code bytes h = rw (h.stand.0, h.answers) (row_read request_firmware_data_answer_row a bytes h.stand.1)
only TransferComplete number code bytes h = rw (h.stand.0, h.answers) (row_read (empty_answer TransferComplete) tt bytes h.stand.1)
only VerifyComplete number code bytes h = rw (h.stand.0, h.answers) (row_read (empty_answer VerifyComplete) tt bytes h.stand.1)
only ApplyComplete number code bytes h = rw (h.stand.0, h.answers) (row_read (empty_answer ApplyComplete) tt bytes h.stand.1)
only (ActivateFirmware a) number code bytes h = rw (h.stand.0, h.answers) (row_read activate_firmware_answer_row (a, tt) bytes h.stand.1)
only (GetStatus a b c d e f g) number code bytes h = rw (h.stand.0, h.answers) (row_read get_status_answer_row (a, (b, (c, (d, (e, (f, (g, tt))))))) bytes h.stand.1)
only CancelUpdateComponent number code bytes h = rw (h.stand.0, h.answers) (row_read (empty_answer CancelUpdateComponent) tt bytes h.stand.1)
only (CancelUpdate a b) number code bytes h = rw (h.stand.0, h.answers) (row_read cancel_update_answer_row (a, (b, tt)) bytes h.stand.1)

-- the code and the data that an answer is written with have its fields
stand_written : (a : UpdateAnswer) → IsUpdateAnswer a → HasAnswerFields a (code_of a) (answer_data a)
stand_written (Refused refusal) h = (refl, h)
stand_written (QueryDeviceIdentifiers a) h = (refl, values_written (answer_fields_of (QueryDeviceIdentifiers a)).layout (answer_fields_of (QueryDeviceIdentifiers a)).values h)
stand_written (GetFirmwareParameters a) h = (refl, values_written (answer_fields_of (GetFirmwareParameters a)).layout (answer_fields_of (GetFirmwareParameters a)).values h)
stand_written (RequestUpdate a b) h = (refl, values_written (answer_fields_of (RequestUpdate a b)).layout (answer_fields_of (RequestUpdate a b)).values h)
stand_written (PassComponentTable a b) h = (refl, values_written (answer_fields_of (PassComponentTable a b)).layout (answer_fields_of (PassComponentTable a b)).values h)
stand_written (UpdateComponent a b c d) h = (refl, values_written (answer_fields_of (UpdateComponent a b c d)).layout (answer_fields_of (UpdateComponent a b c d)).values h)
stand_written (RequestFirmwareData a) h = (refl, values_written (answer_fields_of (RequestFirmwareData a)).layout (answer_fields_of (RequestFirmwareData a)).values h)
stand_written TransferComplete h = (refl, values_written (answer_fields_of TransferComplete).layout (answer_fields_of TransferComplete).values h)
stand_written VerifyComplete h = (refl, values_written (answer_fields_of VerifyComplete).layout (answer_fields_of VerifyComplete).values h)
stand_written ApplyComplete h = (refl, values_written (answer_fields_of ApplyComplete).layout (answer_fields_of ApplyComplete).values h)
stand_written (ActivateFirmware a) h = (refl, values_written (answer_fields_of (ActivateFirmware a)).layout (answer_fields_of (ActivateFirmware a)).values h)
stand_written (GetStatus a b c d e f g) h = (refl, values_written (answer_fields_of (GetStatus a b c d e f g)).layout (answer_fields_of (GetStatus a b c d e f g)).values h)
stand_written CancelUpdateComponent h = (refl, values_written (answer_fields_of CancelUpdateComponent).layout (answer_fields_of CancelUpdateComponent).values h)
stand_written (CancelUpdate a b) h = (refl, values_written (answer_fields_of (CancelUpdate a b)).layout (answer_fields_of (CancelUpdate a b)).values h)

pub written : (a : UpdateAnswer) (number : ℕ) → IsAnswerTo number a → IsUpdateAnswer a → UpdateAnswerFields a number (code_of a) (answer_data a)
written a number to h = record { answers = to; stand = stand_written a h }

-- no code and data have the fields of two answers to commands of one number
pub one : (a b : UpdateAnswer) (number code : ℕ) (bytes : List ℕ) → UpdateAnswerFields a number code bytes → UpdateAnswerFields b number code bytes → a ≡ b
one a b number code bytes h g =
    let first = only a number code bytes h in
    let second = only b number code bytes g in
    cc
