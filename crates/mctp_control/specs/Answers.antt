-- The answers, one row each: to which command it is, its completion code, and the bytes of its data (DSP0236, the
-- tables of the commands).
use Rattle.std.specs.Prelude.{◌≡◌, ℕ, ◌+◌, ◌*◌, ◌<◌, ◌/◌, ◌%◌, ◌==◌, List, [], ◌∷◌, length}
use Rattle.std.specs.Prelude.{Option, None, Some, if◌then◌else◌}
use Rattle.mctp_control.specs.Codes.{IsCode}
use Rattle.mctp_control.specs.Lists.{IsTypes, IsVersions}
use Rattle.mctp_control.specs.declared.answer.Answer.{Answer}
use Rattle.mctp_control.specs.declared.answer.Answer.TheVariants.{Refused, EndpointIdSet, EndpointId, EndpointUuid}
use Rattle.mctp_control.specs.declared.answer.Answer.TheVariants.{VersionSupport, MessageTypeSupport}
use Rattle.mctp_control.specs.declared.answer.Assignment.{Assignment}
use Rattle.mctp_control.specs.declared.answer.Assignment.TheVariants.{Accepted, Rejected}
use Rattle.mctp_control.specs.declared.answer.EidKind.{EidKind}
use Rattle.mctp_control.specs.declared.answer.EidKind.TheVariants.{Dynamic, Static, StaticNow, StaticNotNow}
use Rattle.mctp_control.specs.declared.answer.EndpointKind.{EndpointKind}
use Rattle.mctp_control.specs.declared.answer.EndpointKind.TheVariants.{Simple, BusOwner}
use Rattle.mctp_control.specs.declared.assigned.TheConstants.{SET_ENDPOINT_ID, GET_ENDPOINT_ID, GET_ENDPOINT_UUID}
use Rattle.mctp_control.specs.declared.assigned.TheConstants.{GET_VERSION_SUPPORT, GET_MESSAGE_TYPE_SUPPORT, SUCCESS}
use Rattle.mctp_control.specs.declared.assigned.TheConstants.{UUID_BYTES, VERSION_BYTES}

abbrev pub assignment_code : Assignment → ℕ
assignment_code Accepted = 0
assignment_code Rejected = 1

-- bits 5:4; 2 and 3 are reserved
abbrev pub assignment_of : ℕ → Option Assignment
assignment_of byte =
    if byte / 16 % 4 == 0 then Some Accepted else if byte / 16 % 4 == 1 then Some Rejected else None

abbrev pub endpoint_code : EndpointKind → ℕ
endpoint_code Simple = 0
endpoint_code BusOwner = 1

-- bits 5:4; 2 and 3 are reserved
abbrev pub endpoint_of : ℕ → Option EndpointKind
endpoint_of byte =
    if byte / 16 % 4 == 0 then Some Simple else if byte / 16 % 4 == 1 then Some BusOwner else None

abbrev pub eid_kind_code : EidKind → ℕ
eid_kind_code Dynamic = 0
eid_kind_code Static = 1
eid_kind_code StaticNow = 2
eid_kind_code StaticNotNow = 3

-- bits 1:0
abbrev pub eid_kind_of : ℕ → EidKind
eid_kind_of byte =
    if byte % 4 == 0 then Dynamic else if byte % 4 == 1 then Static
    else if byte % 4 == 2 then StaticNow else StaticNotNow

-- two fields of two bits in a byte, in bits 5:4 and 1:0, with any reserved bits between
abbrev pub HasTwoFields : ℕ → ℕ → ℕ → Type 0
HasTwoFields high low byte =
    (top : ℕ) × (between : ℕ) × (top < 4) × (between < 4) × (byte ≡ 64 * top + 16 * high + 4 * between + low)

-- the command that an answer is to; a refusal is to any
abbrev pub IsAnswerTo : ℕ → Answer → Type 0
IsAnswerTo number (Refused code) = Unit {0}
IsAnswerTo number (EndpointIdSet assignment eid) = number ≡ SET_ENDPOINT_ID
IsAnswerTo number (EndpointId eid endpoint kind medium) = number ≡ GET_ENDPOINT_ID
IsAnswerTo number (EndpointUuid uuid) = number ≡ GET_ENDPOINT_UUID
IsAnswerTo number (VersionSupport versions) = number ≡ GET_VERSION_SUPPORT
IsAnswerTo number (MessageTypeSupport types) = number ≡ GET_MESSAGE_TYPE_SUPPORT

abbrev pub code_of : Answer → ℕ
code_of (Refused code) = code
code_of _ = SUCCESS

-- the answer's fields stand in these bytes; reserved bits may be any, and so may the bytes after a refusal. Set
-- Endpoint ID has its status, where bits 1:0 say that there is no pool, the endpoint ID, and the size of the pool, 0.
abbrev pub HasData : Answer → List ℕ → Type 0
HasData (Refused code) bytes = IsCode code
HasData (EndpointIdSet assignment eid) bytes =
    (status : ℕ) × HasTwoFields (assignment_code assignment) 0 status × (bytes ≡ status ∷ eid ∷ 0 ∷ [])
HasData (EndpointId eid endpoint kind medium) bytes =
    (types : ℕ) × HasTwoFields (endpoint_code endpoint) (eid_kind_code kind) types
    × (bytes ≡ eid ∷ types ∷ medium ∷ [])
HasData (EndpointUuid uuid) bytes = (length uuid ≡ UUID_BYTES) × (bytes ≡ uuid)
HasData (VersionSupport versions) bytes =
    IsVersions versions × (bytes ≡ length versions / VERSION_BYTES ∷ versions)
HasData (MessageTypeSupport types) bytes = IsTypes types × (bytes ≡ length types ∷ types)

-- this code and these bytes are the answer, which is to a command of this number
pub record AnswerFields (answer : Answer) (number code : ℕ) (bytes : List ℕ) : Type 0 where
  pub to : IsAnswerTo number answer
  pub code_is : code ≡ code_of answer
  pub fields : HasData answer bytes

-- the data that an answer is written with: reserved bits are 0
abbrev pub answer_data : Answer → List ℕ
answer_data (Refused code) = []
answer_data (EndpointIdSet assignment eid) = (16 * assignment_code assignment) ∷ eid ∷ 0 ∷ []
answer_data (EndpointId eid endpoint kind medium) =
    eid ∷ (16 * endpoint_code endpoint + eid_kind_code kind) ∷ medium ∷ []
answer_data (EndpointUuid uuid) = uuid
answer_data (VersionSupport versions) = length versions / VERSION_BYTES ∷ versions
answer_data (MessageTypeSupport types) = length types ∷ types
