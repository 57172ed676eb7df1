-- What a fetch has come to after any list of answers, the newest first.
use Rattle.std.specs.Prelude.{◌≡◌, ◌⊎◌, ℕ, zero, suc, ◌<◌, ◌≤◌, ◌+◌, ◌==◌, nat_lt, true}
use Rattle.std.specs.Prelude.{List, [], ◌∷◌, ◌++◌, length, slice_get, Option, None, Some, IfSome, Ok, if◌then◌else◌}
use Rattle.pldm_wire.specs.Crc.{crc}
use Rattle.pldm_wire.specs.RecordParts.{IsPart}
use Rattle.pldm_wire.specs.declared.answer.Answer.{Answer}
use Rattle.pldm_wire.specs.declared.answer.Answer.TheVariants.{GetPdr}
use Rattle.pldm_wire.specs.declared.command.Command.{Command}
use Rattle.pldm_wire.specs.declared.command.Command.TheVariants as commands
use Rattle.pldm_wire.specs.declared.limits.TheConstants.{MAX_PART_BYTES, GET_FIRST_PART, GET_NEXT_PART}
use Rattle.pldm_records.specs.Fetches.{Fetching, begun, taken, after_taking, fetched_record, is_last, next_request}
use Rattle.pldm_records.specs.Records.{handle_of, change_number_of, data_length_of, checksum_with, position_asked}
use Rattle.pldm_records.specs.Records.{part_of, offset_after, is_last_part, next_data_transfer_handle}
use Rattle.pldm_records.specs.RecordAnswers.{record_answer}
use Rattle.pldm_records.specs.declared.fetch.FetchState.TheVariants.{More, Done}
use Rattle.pldm_records.specs.declared.limits.TheConstants.{CHANGE_NUMBER_END, FIRST_RECORD}
use Rattle.pldm_records.specs.declared.limits.TheConstants.{MAX_RECORD_BYTES, RECORD_HEADER}

-- what a fetch of the record with this handle holds after these answers
abbrev pub fetched : ℕ → List Answer → Fetching
fetched asked [] = begun asked
fetched asked (answer ∷ before) = after_taking (fetched asked before) answer

abbrev pub bytes_of : Answer → List ℕ
bytes_of (GetPdr next_record_handle next_data_transfer_handle part) = part.bytes
bytes_of _ = []

-- the bytes of the parts among these answers, in the order in which they came
abbrev pub bytes_of_answers : List Answer → List ℕ
bytes_of_answers [] = []
bytes_of_answers (answer ∷ before) = bytes_of_answers before ++ bytes_of answer

-- a record counts the bytes after its header, and is not too long
pub record IsWhole (pdr : List ℕ) : Type 0 where
  pub header : RECORD_HEADER ≤ length pdr
  pub small : length pdr ≤ MAX_RECORD_BYTES
  pub counted : length pdr ≡ RECORD_HEADER + data_length_of pdr

-- it has the handle that was asked for, or the first record was asked for
abbrev pub IsAsked : ℕ → List ℕ → Type 0
IsAsked asked pdr = (asked ≡ FIRST_RECORD) ⊎ (handle_of pdr ≡ asked)

-- the answer has the last part of the record and the handle of the record after it; a checksum that came with it is the
-- record's, and with the last of several parts one came
abbrev pub EndsRecord : ℕ → List ℕ → Answer → Type 0
EndsRecord next pdr (GetPdr next_record_handle next_data_transfer_handle part) =
    (next_record_handle ≡ next) × (is_last part.flag ≡ true) × IfSome part.transfer_crc (λ checksum. checksum ≡ crc pdr)
    × (IsPart part → part.transfer_crc ≡ checksum_with part.flag pdr)
EndsRecord next pdr _ = ⊥

-- where a fetch is done, the parts joined are a whole record, the one that was asked for, and where a checksum came, it
-- is the record's
abbrev pub DoneIsTheRecord : Type 0
DoneIsTheRecord =
    (asked next : ℕ) (before : List Answer) (answer : Answer) → taken (fetched asked before) answer ≡ Ok (Done next)
    → IsWhole (bytes_of_answers (answer ∷ before)) × IsAsked asked (bytes_of_answers (answer ∷ before))
    × EndsRecord next (bytes_of_answers (answer ∷ before)) answer
    × (fetched_record (fetched asked (answer ∷ before)) ≡ Some (bytes_of_answers (answer ∷ before)))

-- the answer with the part of the record from an offset on, for a request of so many bytes
abbrev pub part_answer : ℕ → List ℕ → ℕ → ℕ → Answer
part_answer next pdr offset count = GetPdr next (next_data_transfer_handle pdr offset count) (part_of pdr offset count)

-- the answer has the part from one offset to another, for a request of some bytes
abbrev pub HasPart : ℕ → List ℕ → ℕ → ℕ → Answer → Type 0
HasPart next pdr start end answer =
    (count : ℕ) × (0 < count) × (answer ≡ part_answer next pdr start count) × (offset_after pdr start count ≡ end)

-- these answers have the parts of the record in turn, up to an offset
abbrev pub ArePartsUpto : ℕ → List ℕ → ℕ → List Answer → Type 0
ArePartsUpto next pdr end [] = end ≡ 0
ArePartsUpto next pdr end (answer ∷ before) =
    (start : ℕ) × (start < length pdr) × HasPart next pdr start end answer × ArePartsUpto next pdr start before

-- the request for the part of the record from an offset on: it has the record's change number where the bytes before
-- have it
abbrev pub request_at : ℕ → List ℕ → ℕ → Command
request_at asked pdr offset =
    commands.GetPdr asked offset (if offset == 0 then GET_FIRST_PART else GET_NEXT_PART) MAX_PART_BYTES
    (if nat_lt offset CHANGE_NUMBER_END then 0 else change_number_of pdr)

-- where a fetch is given the parts of the record that was asked for in turn, it goes on at each, asking for the next
-- one where it begins, and is done at the last, with the record and the handle of the record after it
abbrev pub PartsGiveTheRecord : Type 0
PartsGiveTheRecord =
    (asked next offset count : ℕ) (pdr : List ℕ) (before : List Answer)
    → IsWhole pdr → IsAsked asked pdr → ArePartsUpto next pdr offset before → offset < length pdr → 0 < count
    → (next_request (fetched asked before) ≡ Some (request_at asked pdr offset))
    × (taken (fetched asked before) (part_answer next pdr offset count)
    ≡ (if is_last_part pdr offset count then Ok (Done next) else Ok More))
    × (is_last_part pdr offset count ≡ true
    → fetched_record (fetched asked (part_answer next pdr offset count ∷ before)) ≡ Some pdr)

-- the answers of a repository to the requests of a fetch: one more where the fetch still asks
abbrev pub with_answer : List (List ℕ) → List Answer → Option Command → List Answer
with_answer records before None = before
with_answer records before (Some (commands.GetPdr handle transfer flag count change)) =
    record_answer handle transfer flag count records ∷ before
with_answer records before (Some _) = before

-- all of them after so many rounds
abbrev pub answered_rounds : List (List ℕ) → ℕ → ℕ → List Answer
answered_rounds records asked zero = []
answered_rounds records asked (suc rounds) =
    with_answer records (answered_rounds records asked rounds)
    (next_request (fetched asked (answered_rounds records asked rounds)))

-- followed over a repository, a fetch ends with the record that was asked for, after no more rounds than it has bytes
abbrev pub RepositoryIsFetched : Type 0
RepositoryIsFetched =
    (records : List (List ℕ)) (asked place : ℕ) (pdr : List ℕ)
    → position_asked asked records ≡ Some place → slice_get records place ≡ Some pdr → IsWhole pdr → IsAsked asked pdr
    → fetched_record (fetched asked (answered_rounds records asked (length pdr))) ≡ Some pdr
