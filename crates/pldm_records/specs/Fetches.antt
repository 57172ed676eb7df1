-- A record fetched in parts (DSP0248, "GetPDR command"): what is asked for next, and what each answer gives.
use Rattle.std.specs.Borrow.{Bor}
use Rattle.std.specs.Prelude.{ℕ, ◌+◌, ◌≤◌, ◌==◌, ◌&&◌, ◌||◌, not, nat_lt, Bool, true, false}
use Rattle.std.specs.Prelude.{List, [], ◌++◌, length, Option, Some, None, Result, Ok, Err, if◌then◌else◌}
use Rattle.pldm_wire.specs.Crc.{crc}
use Rattle.pldm_wire.specs.RecordParts.{Part}
use Rattle.pldm_wire.specs.declared.answer.Answer.{Answer}
use Rattle.pldm_wire.specs.declared.answer.Answer.TheVariants.{Refused, GetPdr}
use Rattle.pldm_wire.specs.declared.command.Command.{Command}
use Rattle.pldm_wire.specs.declared.command.Command.TheVariants as commands
use Rattle.pldm_wire.specs.declared.limits.TheConstants.{MAX_PART_BYTES, GET_FIRST_PART, GET_NEXT_PART}
use Rattle.pldm_wire.specs.declared.transfer_flag.TransferFlag.{TransferFlag}
use Rattle.pldm_wire.specs.declared.transfer_flag.TransferFlag.TheVariants.{End, StartAndEnd}
use Rattle.pldm_records.specs.Records.{handle_of, change_number_of, data_length_of}
use Rattle.pldm_records.specs.declared.limits.TheConstants.{CHANGE_NUMBER_END, FIRST_RECORD}
use Rattle.pldm_records.specs.declared.limits.TheConstants.{MAX_RECORD_BYTES, RECORD_HEADER}
use Rattle.pldm_records.specs.declared.fetch.FetchState.{FetchState}
use Rattle.pldm_records.specs.declared.fetch.FetchState.TheVariants.{More, Done}
use Rattle.pldm_records.specs.declared.fetch.Stage.{Stage}
use Rattle.pldm_records.specs.declared.fetch.Stage.TheVariants.{Going, Finished, Failed}
use Rattle.pldm_records.specs.declared.fetch.FetchFault.{FetchFault}
use Rattle.pldm_records.specs.declared.fetch.FetchFault.TheVariants as faults

-- the handle that was asked for, the bytes of the parts so far, where the next part begins, and how far it has come
pub record Fetching : Type 0 where
  pub asked : ℕ
  pub bytes : List ℕ
  pub offset : ℕ
  pub stage : Stage

-- want of memory, and an answer that was not asked for, end no fetch
abbrev pub Ends : FetchFault → Type 0
Ends (faults.Memory memory) = ⊥
Ends faults.Unexpected = ⊥
Ends _ = Unit {0}

abbrev pub EndsAt : Stage → Type 0
EndsAt (Failed fault) = Ends fault
EndsAt _ = Unit {0}

-- it holds no more than a record can have
abbrev pub IsSmall : Fetching → Type 0
IsSmall f = length f.bytes ≤ MAX_RECORD_BYTES

abbrev pub IsFetch : Fetching → Type 0
IsFetch f = IsSmall f × EndsAt f.stage

-- a new fetch
abbrev pub begun : ℕ → Fetching
begun asked = record { asked = asked; bytes = []; offset = 0; stage = Going }

-- what a request for the next part asks: the first part, or the one at the offset
abbrev pub request_for : Fetching → Command
request_for f =
    commands.GetPdr f.asked f.offset (if length f.bytes == 0 then GET_FIRST_PART else GET_NEXT_PART) MAX_PART_BYTES
    (if nat_lt (length f.bytes) CHANGE_NUMBER_END then 0 else change_number_of f.bytes)

abbrev pub is_going : Stage → Bool
is_going Going = true
is_going Finished = false
is_going (Failed fault) = false

-- the request that a fetch makes while it goes on
abbrev pub next_request : Fetching → Option Command
next_request f = if is_going f.stage then Some (request_for f) else None

-- no more parts follow
abbrev pub is_last : TransferFlag → Bool
is_last End = true
is_last StartAndEnd = true
is_last _ = false

-- a checksum came that is not the record's
abbrev pub is_other_crc : Option ℕ → List ℕ → Bool
is_other_crc None pdr = false
is_other_crc (Some checksum) pdr = not (checksum == crc pdr)

-- why these bytes are not the record that was asked for, if they aren't
abbrev pub record_fault : ℕ → List ℕ → Option ℕ → Option FetchFault
record_fault asked pdr checksum =
    if nat_lt (length pdr) RECORD_HEADER || not (length pdr == RECORD_HEADER + data_length_of pdr)
    then Some faults.Count
    else if not (asked == FIRST_RECORD) && not (handle_of pdr == asked) then Some faults.Handle
    else if is_other_crc checksum pdr then Some faults.Crc
    else None

-- a part may be added: it isn't empty, and the record doesn't grow too long
abbrev pub has_room_for : List ℕ → Part → Bool
has_room_for bytes part =
    nat_lt 0 (length part.bytes) && not (nat_lt MAX_RECORD_BYTES (length bytes + length part.bytes))

abbrev pub unless_fault : Option FetchFault → FetchState → Result FetchState FetchFault
unless_fault None state = Ok state
unless_fault (Some fault) state = Err fault

-- what a part gives a fetch that goes on
abbrev pub part_taken : Fetching → ℕ → Part → Result FetchState FetchFault
part_taken f next_record_handle part =
    if has_room_for f.bytes part
    then (if is_last part.flag
    then unless_fault (record_fault f.asked (f.bytes ++ part.bytes) part.transfer_crc) (Done next_record_handle)
    else Ok More)
    else Err faults.Count

-- what an answer gives a fetch that goes on
abbrev pub taken_while_going : Fetching → Answer → Result FetchState FetchFault
taken_while_going f (Refused code) = Err (faults.Refused code)
taken_while_going f (GetPdr next_record_handle next_data_transfer_handle part) = part_taken f next_record_handle part
taken_while_going f _ = Err faults.Unexpected

abbrev pub taken_at : Stage → Fetching → Answer → Result FetchState FetchFault
taken_at Going f answer = taken_while_going f answer
taken_at Finished f answer = Err faults.Unexpected
taken_at (Failed fault) f answer = Err fault

-- what an answer gives
abbrev pub taken : Fetching → Answer → Result FetchState FetchFault
taken f answer = taken_at f.stage f answer

-- a fetch with this part added, the next one beginning at an offset
abbrev pub with_part : Fetching → ℕ → Part → Stage → Fetching
with_part f next_data_transfer_handle part stage =
    record { asked = f.asked; bytes = f.bytes ++ part.bytes; offset = next_data_transfer_handle; stage = stage }

-- a fetch that failed holds no bytes
abbrev pub failed : FetchFault → Fetching → Fetching
failed fault f = record { asked = f.asked; bytes = []; offset = f.offset; stage = Failed fault }

-- what a fetch that goes on holds after a part that gave this
abbrev pub part_after : Fetching → ℕ → Part → Result FetchState FetchFault → Fetching
part_after f next_data_transfer_handle part (Ok More) = with_part f next_data_transfer_handle part Going
part_after f next_data_transfer_handle part (Ok (Done next_record_handle)) =
    with_part f next_data_transfer_handle part Finished
part_after f next_data_transfer_handle part (Err fault) = failed fault f

-- what a fetch that goes on holds after an answer
abbrev pub going_after : Fetching → Answer → Fetching
going_after f (Refused code) = failed (faults.Refused code) f
going_after f (GetPdr next_record_handle next_data_transfer_handle part) =
    part_after f next_data_transfer_handle part (part_taken f next_record_handle part)
going_after f _ = f

-- what a fetch holds after an answer: one that has ended, and one that was given no answer to GetPDR, stay as they are
abbrev pub after_taking : Fetching → Answer → Fetching
after_taking f answer = if is_going f.stage then going_after f answer else f

-- an answer that adds a part: it alone wants memory
abbrev pub adds : Fetching → Answer → Bool
adds f (GetPdr next_record_handle next_data_transfer_handle part) = is_going f.stage && has_room_for f.bytes part
adds f _ = false

abbrev pub record_at_stage : Stage → List ℕ → Option (List ℕ)
record_at_stage Going bytes = None
record_at_stage Finished bytes = Some bytes
record_at_stage (Failed fault) bytes = None

-- the record, once it is whole
abbrev pub fetched_record : Fetching → Option (List ℕ)
fetched_record f = record_at_stage f.stage f.bytes

abbrev pub now_of : Bor (List ℕ) → List ℕ
now_of slice = slice.now
