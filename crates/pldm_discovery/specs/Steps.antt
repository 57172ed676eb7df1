-- What an answer leaves of a walk.
use Rattle.std.specs.Prelude.{ℕ, ◌+◌, ◌==◌, nat_le, Bool, ◌||◌, List, [], ◌∷◌, ◌++◌, length, filter}
use Rattle.std.specs.Prelude.{Option, Some, None, Result, Ok, Err, if◌then◌else◌}
use Rattle.std.specs.List.{list_any}
use Rattle.pldm_records.specs.Fetches as fetches
use Rattle.pldm_records.specs.Fetches.{Fetching, after_taking, taken}
use Rattle.pldm_records.specs.Records.{handle_of}
use Rattle.pldm_records.specs.declared.fetch.FetchFault.{FetchFault}
use Rattle.pldm_records.specs.declared.fetch.FetchState.{FetchState}
use Rattle.pldm_records.specs.declared.fetch.FetchState.TheVariants.{More, Done}
use Rattle.pldm_records.specs.declared.limits.TheConstants.{MAX_RECORDS}
use Rattle.pldm_wire.specs.declared.answer.Answer.{Answer}
use Rattle.pldm_wire.specs.declared.answer.Answer.TheVariants.{GetTid, GetPldmVersion, GetPldmTypes}
use Rattle.pldm_wire.specs.declared.answer.Answer.TheVariants.{GetPdrRepositoryInfo}
use Rattle.pldm_wire.specs.declared.assigned.TheConstants.{PLATFORM}
use Rattle.pldm_wire.specs.declared.command.Command.{Command}
use Rattle.pldm_discovery.specs.Answered.{answer_to}
use Rattle.pldm_discovery.specs.Subjects.{found_of}
use Rattle.pldm_discovery.specs.Termini.{asked_handle, is_asked}
use Rattle.pldm_discovery.specs.Types.{has_type, next_type}
use Rattle.pldm_discovery.specs.Versions.{last_version}
use Rattle.pldm_discovery.specs.Walks.{Walking, next_command}
use Rattle.pldm_discovery.specs.declared.limits.TheConstants.{NO_RECORD}
use Rattle.pldm_discovery.specs.declared.stage.Stage.{Stage}
use Rattle.pldm_discovery.specs.declared.stage.Stage.TheVariants.{Tid, Types, Versions, Commands}
use Rattle.pldm_discovery.specs.declared.stage.Stage.TheVariants.{Repository, Records, Readings}
use Rattle.pldm_discovery.specs.declared.discovered.Discovered.{Discovered}

-- The types, one after the other.

abbrev pub stage_at : List ℕ → Option ℕ → Stage
stage_at types (Some pldm_type) = Versions pldm_type
stage_at types None = if has_type types PLATFORM then Repository else Readings

-- the versions of the next of these types that is not below a number; after the last one the repository, where
-- monitoring and control is among them
abbrev pub stage_from : List ℕ → ℕ → Stage
stage_from types least = stage_at types (next_type types least)

-- The answers of messaging control and discovery (DSP0240).

abbrev pub tid_in : Option Answer → Option ℕ
tid_in (Some (GetTid tid)) = Some tid
tid_in _ = None

abbrev pub with_tid : Walking → Option Answer → Walking
with_tid w answer = record w { stage = Types; tid = tid_in answer }

abbrev pub with_types : Walking → Option Answer → Walking
with_types w (Some (GetPldmTypes types)) = record w { stage = stage_from types 0; types = types }
with_types w _ = record w { stage = Readings }

abbrev pub past_type : Walking → ℕ → Walking
past_type w pldm_type = record w { stage = stage_from w.types (pldm_type + 1) }

abbrev pub with_versions : Walking → ℕ → Option Answer → Walking
with_versions w pldm_type (Some (GetPldmVersion next_data_transfer_handle versions)) =
    record w { stage = Commands pldm_type (last_version versions) }
with_versions w pldm_type _ = past_type w pldm_type

-- The repository (DSP0248, "GetPDRRepositoryInfo command"): where it has no record, none is asked for.

abbrev pub with_repository : Walking → Option Answer → Walking
with_repository w (Some (GetPdrRepositoryInfo state update_time oem_update_time record_count repository_size
    largest_record_size timeout)) =
    record w { stage = if record_count == 0 then Readings else Records; expected = Some record_count }
with_repository w _ = record w { stage = Readings }

-- The records (DSP0248, "GetPDR command").

-- whether one of these records has this handle
abbrev pub has_handle : ℕ → List (List ℕ) → Bool
has_handle handle records = list_any (λ pdr. handle_of pdr == handle) records

-- at the end of the records: of what they describe, what is of the asked terminus is read
abbrev pub ended : Walking → Walking
ended w = record w { stage = Readings; found = filter (is_asked (asked_handle w.tid w.records)) w.found }

abbrev pub listed : Option Discovered → List Discovered
listed None = []
listed (Some found) = found ∷ []

-- a record more, and the handle of the next one
abbrev pub with_more : Walking → List ℕ → ℕ → Walking
with_more w pdr next =
    record w {
      fetch = fetches.begun next;
      records = w.records ++ pdr ∷ [];
      found = w.found ++ listed (found_of (length w.records) pdr);
    }

-- the next record is asked for where it is another one, and there is room for it
abbrev pub is_end : List (List ℕ) → ℕ → Bool
is_end records next = next == NO_RECORD || has_handle next records || nat_le MAX_RECORDS (length records)

abbrev pub with_record : Walking → List ℕ → ℕ → Walking
with_record w pdr next =
    if is_end (w.records ++ pdr ∷ []) next then ended (with_more w pdr next) else with_more w pdr next

-- by what the fetch gave for the answer, and what it holds then
abbrev pub with_fetch : Walking → Result FetchState FetchFault → Fetching → Walking
with_fetch w (Ok More) fetch = record w { fetch = fetch }
with_fetch w (Ok (Done next)) fetch = with_record w fetch.bytes next
with_fetch w (Err fault) fetch = ended (record w { fetch = fetch })

abbrev pub with_part : Walking → Option Answer → Walking
with_part w None = ended w
with_part w (Some answer) = with_fetch w (taken w.fetch answer) (after_taking w.fetch answer)

-- The readings, values and states (DSP0248): the message is kept, if one came.

abbrev pub with_reading : Walking → Option (List ℕ) → Walking
with_reading w message = record w { readings = w.readings ++ message ∷ [] }

-- by what was asked, and the answer that the message is to it
abbrev pub with_answer : Stage → Walking → Option Answer → Option (List ℕ) → Walking
with_answer Tid w answer message = with_tid w answer
with_answer Types w answer message = with_types w answer
with_answer (Versions pldm_type) w answer message = with_versions w pldm_type answer
with_answer (Commands pldm_type version) w answer message = past_type w pldm_type
with_answer Repository w answer message = with_repository w answer
with_answer Records w answer message = with_part w answer
with_answer Readings w answer message = with_reading w message

abbrev pub after_asking : Option Command → Walking → Option (List ℕ) → Walking
after_asking None w message = w
after_asking (Some command) w message = with_answer w.stage w (answer_to command message) message

-- what a walk holds after the message that answered its next command, if one came; at its end nothing changes
abbrev pub after : Walking → Option (List ℕ) → Walking
after w message = after_asking (next_command w) w message
