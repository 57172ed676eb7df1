-- Records one after another in an array: the length in the header of each says where the next one begins (DSP0248,
-- "Common PDR format"); and what they answer to the commands of a PDR repository.
use Rattle.std.specs.Prelude.{◌≡◌, ℕ, ◌==◌, ◌≤◌, Bool, true, ◌&&◌, ◌||◌, not, IsTrue, List, [], ◌∷◌, length}
use Rattle.std.specs.Prelude.{Some, if◌then◌else◌}
use Rattle.std.specs.List.{flat_map, list_all, list_any}
use Rattle.pldm_wire.specs.Kinds.{of_type}
use Rattle.pldm_wire.specs.declared.answer.Answer.{Answer}
use Rattle.pldm_wire.specs.declared.assigned.TheConstants.{GET_PDR, GET_PDR_REPOSITORY_INFO, PLATFORM}
use Rattle.pldm_records.specs.RecordAnswers.{record_answer, repository_info}
use Rattle.pldm_records.specs.Records.{handle_of, is_record}
use Rattle.pldm_records.specs.declared.limits.TheConstants.{MAX_RECORDS}
use Rattle.needleoat_forms.specs.Answers.{answer_in, kind_in}
use Rattle.needleoat_forms.specs.declared.answer.AnswerFields.{AnswerFields}
use Rattle.needleoat_forms.specs.declared.command.CommandFields.{CommandFields}

-- whether a record has this handle
abbrev pub has_handle : ℕ → List (List ℕ) → Bool
has_handle handle records = list_any (λ pdr. handle_of pdr == handle) records

-- whether no two records have one handle
abbrev pub have_own_handles : List (List ℕ) → Bool
have_own_handles [] = true
have_own_handles (pdr ∷ records) = not (has_handle (handle_of pdr) records) && have_own_handles records

-- the bytes are these records one after another, which a repository may have
pub record AreRecords (bytes : List ℕ) (records : List (List ℕ)) : Type 0 where
  pub joined : bytes ≡ flat_map (λ pdr. pdr) records
  pub each : IsTrue (list_all is_record records)
  pub own_handles : IsTrue (have_own_handles records)
  pub count : length records ≤ MAX_RECORDS

-- the bytes are no records
abbrev pub AreNoRecords : List ℕ → Type 0
AreNoRecords bytes = (records : List (List ℕ)) → AreRecords bytes records → ⊥

-- whether the command that a struct is, is one of the two that a repository answers
abbrev pub is_of_repository : CommandFields → Bool
is_of_repository f = (f.pldm_type == PLATFORM) && ((f.command == GET_PDR_REPOSITORY_INFO) || (f.command == GET_PDR))

-- its answer of a repository of these records with these two times of its last change
abbrev pub answer_among : List ℕ → List ℕ → CommandFields → List (List ℕ) → Answer
answer_among update_time oem_update_time f records =
    if f.command == GET_PDR_REPOSITORY_INFO then repository_info update_time oem_update_time records
    else record_answer f.record_handle f.data_transfer_handle f.transfer_operation_flag f.request_count records

-- the struct has this answer to the command
pub record IsAnswered (f : CommandFields) (answer : Answer) (number : ℕ) (new : AnswerFields) : Type 0 where
  pub answered : number ≡ 0
  pub instance_id : new.instance_id ≡ f.instance_id
  pub kind : kind_in new ≡ of_type f.pldm_type f.command
  pub answer_is : answer_in new ≡ Some answer

-- there is no answer for this reason, and the struct is as it was
abbrev pub IsUnanswered : ℕ → ℕ → AnswerFields → AnswerFields → Type 0
IsUnanswered why number old new = (number ≡ why) × (new ≡ old)
