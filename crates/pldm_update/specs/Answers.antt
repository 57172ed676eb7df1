-- The answers to the commands of firmware update, one row each: the command's number, the layout of the data after the
-- completion code, and the answer's fields as the layout's values (DSP0267).
use Rattle.std.specs.Prelude.{◌≡◌, ℕ, List, Option, Some, None, IfSome}
use Rattle.pldm_wire.specs.Codes.{IsCode}
use Rattle.pldm_wire.specs.declared.assigned.TheConstants.{SUCCESS}
use Rattle.pldm_update.specs.Layouts.{Layout, End, Rest, Identifiers, Parameters, Then, Byte, Number, State}
use Rattle.pldm_update.specs.Layouts.{bytes_of, AllInRange, StandIn}
use Rattle.pldm_update.specs.Commands.{Fields, fields}
use Rattle.pldm_update.specs.declared.assigned.TheConstants.{QUERY_DEVICE_IDENTIFIERS, GET_FIRMWARE_PARAMETERS}
use Rattle.pldm_update.specs.declared.assigned.TheConstants.{REQUEST_UPDATE, PASS_COMPONENT_TABLE, UPDATE_COMPONENT}
use Rattle.pldm_update.specs.declared.assigned.TheConstants.{REQUEST_FIRMWARE_DATA, TRANSFER_COMPLETE, VERIFY_COMPLETE}
use Rattle.pldm_update.specs.declared.assigned.TheConstants.{APPLY_COMPLETE, ACTIVATE_FIRMWARE, GET_STATUS}
use Rattle.pldm_update.specs.declared.assigned.TheConstants.{CANCEL_UPDATE_COMPONENT, CANCEL_UPDATE}
use Rattle.pldm_update.specs.declared.limits.TheConstants.{MAX_PIECE_BYTES}
use Rattle.pldm_update.specs.declared.answer.UpdateAnswer.{UpdateAnswer}
use Rattle.pldm_update.specs.declared.answer.UpdateAnswer.TheVariants.{Refused, QueryDeviceIdentifiers, GetFirmwareParameters}
use Rattle.pldm_update.specs.declared.answer.UpdateAnswer.TheVariants.{RequestUpdate, PassComponentTable}
use Rattle.pldm_update.specs.declared.answer.UpdateAnswer.TheVariants.{UpdateComponent, RequestFirmwareData}
use Rattle.pldm_update.specs.declared.answer.UpdateAnswer.TheVariants.{TransferComplete, VerifyComplete, ApplyComplete}
use Rattle.pldm_update.specs.declared.answer.UpdateAnswer.TheVariants.{ActivateFirmware, GetStatus}
use Rattle.pldm_update.specs.declared.answer.UpdateAnswer.TheVariants.{CancelUpdateComponent, CancelUpdate}

-- the one command that the answer is to; a refusal is to any
abbrev pub answered_number : UpdateAnswer → Option ℕ
answered_number (Refused _) = None
answered_number (QueryDeviceIdentifiers _) = Some QUERY_DEVICE_IDENTIFIERS
answered_number (GetFirmwareParameters _) = Some GET_FIRMWARE_PARAMETERS
answered_number (RequestUpdate _ _) = Some REQUEST_UPDATE
answered_number (PassComponentTable _ _) = Some PASS_COMPONENT_TABLE
answered_number (UpdateComponent _ _ _ _) = Some UPDATE_COMPONENT
answered_number (RequestFirmwareData _) = Some REQUEST_FIRMWARE_DATA
answered_number TransferComplete = Some TRANSFER_COMPLETE
answered_number VerifyComplete = Some VERIFY_COMPLETE
answered_number ApplyComplete = Some APPLY_COMPLETE
answered_number (ActivateFirmware _) = Some ACTIVATE_FIRMWARE
answered_number (GetStatus _ _ _ _ _ _ _) = Some GET_STATUS
answered_number CancelUpdateComponent = Some CANCEL_UPDATE_COMPONENT
answered_number (CancelUpdate _ _) = Some CANCEL_UPDATE

-- the layouts of the answers' data; that of an answer with no data is `End`

-- meta data length, whether GetPackageData will be sent
abbrev pub request_update_answer : Layout
request_update_answer = Then (Number 2) (Then Byte End)

-- response, its code
abbrev pub pass_component_table_answer : Layout
pass_component_table_answer = Then Byte (Then Byte End)

-- compatibility, its code, enabled flags, seconds before the first request of a piece
abbrev pub update_component_answer : Layout
update_component_answer = Then Byte (Then Byte (Then (Number 4) (Then (Number 2) End)))

-- a piece of the image
abbrev pub request_firmware_data_answer : Layout
request_firmware_data_answer = Rest MAX_PIECE_BYTES

-- estimated seconds
abbrev pub activate_firmware_answer : Layout
activate_firmware_answer = Then (Number 2) End

-- state, previous state, auxiliary state and status, progress, reason, enabled flags
abbrev pub get_status_answer : Layout
get_status_answer = Then State (Then State (Then Byte (Then Byte (Then Byte (Then Byte (Then (Number 4) End))))))

-- whether components don't function, and which
abbrev pub cancel_update_answer : Layout
cancel_update_answer = Then Byte (Then (Number 8) End)

-- an answer's fields after the completion code
abbrev pub answer_fields_of : UpdateAnswer → Fields
answer_fields_of (Refused code) = fields End tt
answer_fields_of (QueryDeviceIdentifiers identifiers) = fields Identifiers identifiers
answer_fields_of (GetFirmwareParameters parameters) = fields Parameters parameters
answer_fields_of (RequestUpdate meta_data_bytes sends_package_data) =
    fields request_update_answer (meta_data_bytes, (sends_package_data, tt))
answer_fields_of (PassComponentTable response response_code) =
    fields pass_component_table_answer (response, (response_code, tt))
answer_fields_of (UpdateComponent compatibility compatibility_code enabled_flags seconds) =
    fields update_component_answer (compatibility, (compatibility_code, (enabled_flags, (seconds, tt))))
answer_fields_of (RequestFirmwareData piece) = fields request_firmware_data_answer piece
answer_fields_of TransferComplete = fields End tt
answer_fields_of VerifyComplete = fields End tt
answer_fields_of ApplyComplete = fields End tt
answer_fields_of (ActivateFirmware estimated_seconds) = fields activate_firmware_answer (estimated_seconds, tt)
answer_fields_of (GetStatus state previous auxiliary_state auxiliary_status progress reason enabled_flags) =
    fields get_status_answer
    (state, (previous, (auxiliary_state, (auxiliary_status, (progress, (reason, (enabled_flags, tt)))))))
answer_fields_of CancelUpdateComponent = fields End tt
answer_fields_of (CancelUpdate not_functioning components) =
    fields cancel_update_answer (not_functioning, (components, tt))

-- the completion code and the data that an answer is written with; a refusal has no data
abbrev pub code_of : UpdateAnswer → ℕ
code_of (Refused code) = code
code_of _ = SUCCESS

abbrev pub answer_data : UpdateAnswer → List ℕ
answer_data answer = bytes_of (answer_fields_of answer).layout (answer_fields_of answer).values

-- the ranges of an answer's fields
abbrev pub IsUpdateAnswer : UpdateAnswer → Type 0
IsUpdateAnswer (Refused code) = IsCode code
IsUpdateAnswer answer = AllInRange (answer_fields_of answer).layout (answer_fields_of answer).values

-- the answer's fields stand in this completion code and these bytes; after another code than SUCCESS the bytes may be
-- any
abbrev pub HasAnswerFields : UpdateAnswer → ℕ → List ℕ → Type 0
HasAnswerFields (Refused refusal) code bytes = (code ≡ refusal) × IsCode refusal
HasAnswerFields answer code bytes =
    (code ≡ SUCCESS) × StandIn (answer_fields_of answer).layout (answer_fields_of answer).values bytes

-- it is an answer to the command of this number
abbrev pub IsAnswerTo : ℕ → UpdateAnswer → Type 0
IsAnswerTo number answer = IfSome (answered_number answer) (λ n. number ≡ n)

-- this completion code and these bytes are the answer to the command of this number, which is one that is read here
pub record UpdateAnswerFields (answer : UpdateAnswer) (number : ℕ) (code : ℕ) (bytes : List ℕ) : Type 0 where
  pub answers : IsAnswerTo number answer
  pub stand : HasAnswerFields answer code bytes
