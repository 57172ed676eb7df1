-- The records that an array holds, and what they answer.
use Rattle.std.proofs.Common.{◌≡◌, ℕ, ◌≤◌, ◌==◌, ◌&&◌, leb, true, false, List, [], ◌∷◌, ◌++◌, length, Some, None, refl, sym, ap, subst, ◌∙◌, ⊎_elim}
use Rattle.std.proofs.lemmas.Bool.{and_parts, cases_Bool, cond-false, cond-true, eq-eqb, eqb-true, leb-true, ne_eqb}
use Rattle.std.proofs.lemmas.List.{append-nil}
use Rattle.std.specs.List.{flat_map}
use Rattle.pldm_wire.specs.declared.answer.Answer.TheVariants.{GetPdrRepositoryInfo}
use Rattle.pldm_wire.specs.declared.assigned.TheConstants.{GET_PDR_REPOSITORY_INFO}
use Rattle.pldm_records.specs.RecordAnswers.{record_answer, repository_info}
use Rattle.needleoat_forms.specs.declared.command.CommandFields.{CommandFields}
use Rattle.needleoat_wire_c.specs.RecordArrays.{AreRecords, answer_among, have_own_handles}
use Rattle.needleoat_wire_c.specs.RecordWalks.{are_records, left_in, records_in, summary, summary_in}
use Rattle.needleoat_wire_c.specs.declared.record_array.Summary.{Summary}
use Rattle.needleoat_wire_c.proofs.RecordsWalked.{each, joined, walked}
use Rattle.needleoat_wire_c.proofs.RecordsSummed.{summed}

pub held_records : (bytes : List ℕ) (held : List (List ℕ)) → AreRecords bytes held → records_in bytes ≡ held
held_records bytes held are = ap records_in are.joined ∙ (walked held are.each).0

pub held_summary : (bytes : List ℕ) (held : List (List ℕ)) → AreRecords bytes held → Some (summary (records_in bytes)) ≡ summary_in bytes
held_summary bytes held are =
    let same : records_in bytes ≡ held = held_records bytes held are in
    summed bytes
    (ap (λ (xs : List ℕ). length (left_in xs)) are.joined ∙ ap length (walked held are.each).1)
    (ap have_own_handles same ∙ are.own_handles)
    (subst (λ (records : List (List ℕ)). length records ≤ 1000) (sym same) are.count)

pub none_held : (bytes : List ℕ) (held : List (List ℕ)) → None ≡ summary_in bytes → AreRecords bytes held → ⊥
none_held bytes held none are = let some = held_summary bytes held are in cc

nothing : (xs : List ℕ) → length xs ≡ 0 → xs ≡ []
nothing [] e = refl
nothing (x ∷ xs) e = cc

whole : (bytes : List ℕ) → are_records bytes ≡ true → AreRecords bytes (records_in bytes)
whole bytes are =
    let last = and_parts (length (left_in bytes) == 0 && have_own_handles (records_in bytes)) (leb (length (records_in bytes)) 1000) are in
    let first = and_parts (length (left_in bytes) == 0) (have_own_handles (records_in bytes)) last.0 in
    let left : left_in bytes ≡ [] = nothing (left_in bytes) (eqb-true _ _ first.0) in
    record {
      joined = sym (sym (append-nil (flat_map (λ pdr. pdr) (records_in bytes))) ∙ ap (λ (xs : List ℕ). flat_map (λ pdr. pdr) (records_in bytes) ++ xs) (sym left) ∙ joined bytes);
      each = each bytes;
      own_handles = first.1;
      count = leb-true _ _ last.1;
    }

same_some : (a b : Summary) → Some a ≡ Some b → a ≡ b
same_some a b e = cc

pub are_held : (bytes : List ℕ) (s : Summary) → Some s ≡ summary_in bytes → (s ≡ summary (records_in bytes)) × AreRecords bytes (records_in bytes)
are_held bytes s some =
    ⊎_elim
    (λ (is : are_records bytes ≡ true).
    (same_some s (summary (records_in bytes)) (some ∙ cond-true (are_records bytes) (Some (summary (records_in bytes))) None is), whole bytes is))
    (λ (is : are_records bytes ≡ false).
    let none = some ∙ cond-false (are_records bytes) (Some (summary (records_in bytes))) None is in cc)
    (cases_Bool (are_records bytes))

pub info_among : (update_time oem_update_time : List ℕ) (f : CommandFields) (s : Summary) (held : List (List ℕ)) → f.command ≡ GET_PDR_REPOSITORY_INFO → s ≡ summary held → GetPdrRepositoryInfo 0 update_time oem_update_time s.count s.size s.largest 0 ≡ answer_among update_time oem_update_time f held
info_among update oem f s held is same =
    ap (λ (s : Summary). GetPdrRepositoryInfo 0 update oem s.count s.size s.largest 0) same
    ∙ sym (cond-true (f.command == GET_PDR_REPOSITORY_INFO) (repository_info update oem held) (record_answer f.record_handle f.data_transfer_handle f.transfer_operation_flag f.request_count held) (eq-eqb _ _ is))

pub part_among : (update_time oem_update_time : List ℕ) (f : CommandFields) (records held : List (List ℕ)) → (f.command ≡ GET_PDR_REPOSITORY_INFO → ⊥) → records ≡ held → record_answer f.record_handle f.data_transfer_handle f.transfer_operation_flag f.request_count records ≡ answer_among update_time oem_update_time f held
part_among update oem f records held other same =
    ap (record_answer f.record_handle f.data_transfer_handle f.transfer_operation_flag f.request_count) same
    ∙ sym (cond-false (f.command == GET_PDR_REPOSITORY_INFO) (repository_info update oem held) (record_answer f.record_handle f.data_transfer_handle f.transfer_operation_flag f.request_count held) (ne_eqb _ _ other))
