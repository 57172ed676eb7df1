-- What a fetch has come to after the answers that it was given, the newest first, read by looking back over them.
use Rattle.std.specs.Prelude.{◌≡◌, ℕ, ◌==◌, nat_lt, List, [], ◌∷◌, length}
use Rattle.std.specs.Prelude.{Option, Some, None, is_some, Result, Ok, Err, if◌then◌else◌}
use Rattle.pldm_wire.specs.declared.answer.Answer.{Answer}
use Rattle.pldm_wire.specs.declared.answer.Answer.TheVariants.{Refused, GetPdr}
use Rattle.pldm_wire.specs.declared.command.Command.{Command}
use Rattle.pldm_wire.specs.declared.command.Command.TheVariants as commands
use Rattle.pldm_wire.specs.declared.limits.TheConstants.{MAX_PART_BYTES, GET_FIRST_PART, GET_NEXT_PART}
use Rattle.pldm_records.specs.Fetches.{Fetching, begun, taken, taken_while_going}
use Rattle.pldm_records.specs.Fetches.{after_taking, next_request, fetched_record}
use Rattle.pldm_records.specs.FetchLaws.{bytes_of_answers}
use Rattle.pldm_records.specs.Records.{change_number_of}
use Rattle.pldm_records.specs.declared.fetch.FetchState.{FetchState}
use Rattle.pldm_records.specs.declared.fetch.FetchState.TheVariants.{More, Done}
use Rattle.pldm_records.specs.declared.fetch.Stage.TheVariants.{Going, Finished, Failed}
use Rattle.pldm_records.specs.declared.fetch.FetchFault.{FetchFault}
use Rattle.pldm_records.specs.declared.fetch.FetchFault.TheVariants as faults
use Rattle.pldm_records.specs.declared.limits.TheConstants.{CHANGE_NUMBER_END}

-- where the next part begins, as the last part of these answers has it: 0 before the first
abbrev pub last_handle : List Answer → ℕ
last_handle [] = 0
last_handle (GetPdr next_record_handle next_data_transfer_handle part ∷ before) = next_data_transfer_handle
last_handle (_ ∷ before) = last_handle before

-- what an answer gives where no earlier one ended the fetch: it is judged by the parts joined so far
abbrev pub judged : ℕ → List Answer → Answer → Result FetchState FetchFault
judged asked before answer =
    taken_while_going
    (record { asked = asked; bytes = bytes_of_answers before; offset = last_handle before; stage = Going }) answer

-- a part ends the fetch where it is the last, or refused
abbrev pub ending_of_part : Result FetchState FetchFault → Option (Result FetchState FetchFault)
ending_of_part (Ok More) = None
ending_of_part (Ok (Done next)) = Some (Ok (Done next))
ending_of_part (Err fault) = Some (Err fault)

-- whether an answer that gives this ends the fetch: a refusal does, and what is no answer to GetPDR does not
abbrev pub ending : Answer → Result FetchState FetchFault → Option (Result FetchState FetchFault)
ending (Refused code) given = Some given
ending (GetPdr next_record_handle next_data_transfer_handle part) given = ending_of_part given
ending _ given = None

abbrev pub earlier : {A : Type 0} → Option A → Option A → Option A
earlier (Some first) later = Some first
earlier None later = later

-- how the fetch ended: by the first answer that ended it
abbrev pub ended : ℕ → List Answer → Option (Result FetchState FetchFault)
ended asked [] = None
ended asked (answer ∷ before) = earlier (ended asked before) (ending answer (judged asked before answer))

-- what an answer gives, by how the fetch ended before it: after a fault that fault, after the record Unexpected
abbrev pub expected_after :
    Option (Result FetchState FetchFault) → Result FetchState FetchFault → Result FetchState FetchFault
expected_after None given = given
expected_after (Some (Ok state)) given = Err faults.Unexpected
expected_after (Some (Err fault)) given = Err fault

abbrev pub expected : ℕ → List Answer → Answer → Result FetchState FetchFault
expected asked before answer = expected_after (ended asked before) (judged asked before answer)

-- the request for the part after these: for the first part where none came, else for the one that the last part names;
-- and from the eighth byte on with the record's change number
abbrev pub request_after : ℕ → List Answer → Command
request_after asked before =
    commands.GetPdr asked (last_handle before)
    (if length (bytes_of_answers before) == 0 then GET_FIRST_PART else GET_NEXT_PART) MAX_PART_BYTES
    (if nat_lt (length (bytes_of_answers before)) CHANGE_NUMBER_END then 0
    else change_number_of (bytes_of_answers before))

-- it is made while nothing has ended the fetch
abbrev pub asks_after : ℕ → List Answer → Option Command
asks_after asked before = if is_some (ended asked before) then None else Some (request_after asked before)

abbrev pub done_with : Option (Result FetchState FetchFault) → List ℕ → Option (List ℕ)
done_with (Some (Ok state)) bytes = Some bytes
done_with (Some (Err fault)) bytes = None
done_with None bytes = None

-- the record: the parts joined, where the answer that ended the fetch was its last part
abbrev pub record_after : ℕ → List Answer → Option (List ℕ)
record_after asked [] = None
record_after asked (answer ∷ before) =
    if is_some (ended asked before) then record_after asked before
    else done_with (ending answer (judged asked before answer)) (bytes_of_answers (answer ∷ before))

-- what is held, by how the fetch ended: the parts joined, the record, or the fault alone
abbrev pub IsLeft : ℕ → List Answer → Option (Result FetchState FetchFault) → Fetching → Type 0
IsLeft asked answers None f =
    f ≡ record { asked = asked; bytes = bytes_of_answers answers; offset = last_handle answers; stage = Going }
IsLeft asked answers (Some (Ok state)) f = (f.stage ≡ Finished) × (record_after asked answers ≡ Some f.bytes)
IsLeft asked answers (Some (Err fault)) f = (f.stage ≡ Failed fault) × (record_after asked answers ≡ None)

-- what a fetch holds is what these answers leave of a new fetch of the record with this handle
abbrev pub IsLeftBy : ℕ → Fetching → List Answer → Type 0
IsLeftBy asked f answers = IsLeft asked answers (ended asked answers) f

-- an answer gives what looking back over all answers says, and leaves what the longer list leaves
abbrev pub TakingLooksBack : Type 0
TakingLooksBack =
    (asked : ℕ) (f : Fetching) (answers : List Answer) (answer : Answer) → IsLeftBy asked f answers
    → (taken f answer ≡ expected asked answers answer) × IsLeftBy asked (after_taking f answer) (answer ∷ answers)

-- a new fetch holds what the empty list leaves
abbrev pub BegunLooksBack : Type 0
BegunLooksBack = (asked : ℕ) → IsLeftBy asked (begun asked) []

-- what it asks for next, and the record, are read by looking back as well
abbrev pub AskingLooksBack : Type 0
AskingLooksBack =
    (asked : ℕ) (f : Fetching) (answers : List Answer) → IsLeftBy asked f answers
    → (next_request f ≡ asks_after asked answers) × (fetched_record f ≡ record_after asked answers)
