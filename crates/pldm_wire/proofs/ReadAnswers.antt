-- The answer that is read has its fields in the completion code and the data, every answer whose fields stand there is
-- read, and what an answer is written with has its fields.
use Rattle.std.proofs.Common.{◌≡◌, ℕ, ◌≤◌, ◌<◌, ◌==◌, true, List, [], ◌∷◌, length, Ok, Err, IfOk, if◌then◌else◌, refl, sym, subst, ap, ◌∙◌, arith, eqb-true, length-append}
use Rattle.std.proofs.lemmas.Bool.{eq-eqb, ne_eqb, eqb-false, and_parts, and_from, cond-true, cond-false}
use Rattle.std.proofs.lemmas.Result.{IfOk-weaker}
use Rattle.pldm_wire.specs.AnswerReading.{same_kind, answer_in, answer_by, success_of, answer_of, AnswersKind}
use Rattle.pldm_wire.specs.Answers.{IsAnswerTo, HasAnswerFields, AnswerFields, IsAnswer, AnswerEntry, answers, EntryInRange, EntryStands, entry_bytes, code_of, answer_data, answer_entry}
use Rattle.pldm_wire.specs.CommandTable.{Row, base_rows, platform_rows, set_tid, get_tid, get_pldm_version, get_pldm_types, get_pldm_commands, get_sensor_reading, get_state_sensor_readings, set_numeric_effecter_value, get_numeric_effecter_value, set_state_effecter_states, get_state_effecter_states, get_pdr_repository_info, get_pdr}
use Rattle.pldm_wire.specs.Kinds.{TypeAndCommand, of_type}
use Rattle.pldm_wire.specs.Layouts.{Values, StandIn}
use Rattle.pldm_wire.specs.declared.assigned.TheConstants.{BASE, PLATFORM, SUCCESS, START_AND_END}
use Rattle.pldm_wire.specs.declared.answer.Answer.{Answer}
use Rattle.pldm_wire.specs.declared.answer.Answer.TheVariants.{Refused, SetTid, GetTid, GetPldmVersion, GetPldmTypes, GetPldmCommands, GetSensorReading, GetStateSensorReadings, SetNumericEffecterValue, GetNumericEffecterValue, SetStateEffecterStates, GetStateEffecterStates, GetPdrRepositoryInfo, GetPdr}
use Rattle.pldm_wire.specs.declared.answer_reading.AnswerFault.TheVariants.{OtherCommand, Length, Value}
use Rattle.pldm_wire.proofs.Cells.{by_test}
use Rattle.pldm_wire.proofs.FieldsRead.{values_written}
use Rattle.pldm_wire.proofs.RowsRead.{data_read, data_found}

-- what values of an answer that stand in the bytes make is an answer with these bytes
abbrev IsSound : Row → List ℕ → Type 0
IsSound row bytes =
    (v : Values row.answer.layout) → StandIn row.answer.layout v bytes → AnswerFields (row.answer.make v) row.kind SUCCESS bytes

abbrev AreSound : ℕ → List Row → List ℕ → Type 0
AreSound pldm_type [] bytes = Unit {0}
AreSound pldm_type (row ∷ rows) bytes = (row.kind.pldm_type ≡ pldm_type) × IsSound row bytes × AreSound pldm_type rows bytes

by_rows : (pldm_type : ℕ) (rows : List Row) (command : ℕ) (bytes : List ℕ) → AreSound pldm_type rows bytes
    → IfOk (answer_by rows command bytes) (λ a. AnswerFields a (of_type pldm_type command) SUCCESS bytes)
by_rows pldm_type [] command bytes h = tt
by_rows pldm_type (row ∷ rows) command bytes h =
    by_test (λ r. IfOk r (λ a. AnswerFields a (of_type pldm_type command) SUCCESS bytes)) (command == row.kind.command) (answer_in row bytes) (answer_by rows command bytes)
    (λ e. let number : command ≡ row.kind.command = eqb-true command row.kind.command e in
    let found = data_found (λ a. AnswerFields a row.kind SUCCESS bytes) Length Value row.answer bytes h.1 in
    rw (number, sym h.0) found)
    (λ _. by_rows pldm_type rows command bytes h.2)

-- the flag of versions in one part
whole_versions : (bytes : List ℕ) → IsSound get_pldm_version bytes
whole_versions bytes v h =
    let flag : v.1.0 ≡ START_AND_END = eqb-true v.1.0 START_AND_END h.3.2.1 in
    record { kind_is = refl; fields = (refl, refl, subst (λ (n : ℕ). StandIn get_pldm_version.answer.layout (v.0, (n, v.1.1)) bytes) flag h) }

-- as many fields as were counted
counted_sensors : (bytes : List ℕ) → IsSound get_state_sensor_readings bytes
counted_sensors bytes v h =
    record { kind_is = refl; fields = (refl, refl, subst (λ (n : ℕ). StandIn get_state_sensor_readings.answer.layout (n, (v.1.0, tt)) bytes) (sym h.3.2.0) h) }

counted_effecters : (bytes : List ℕ) → IsSound get_state_effecter_states bytes
counted_effecters bytes v h =
    record { kind_is = refl; fields = (refl, refl, subst (λ (n : ℕ). StandIn get_state_effecter_states.answer.layout (n, (v.1.0, tt)) bytes) (sym h.3.2.0) h) }

-- as many bytes as were counted
counted_part : (bytes : List ℕ) → IsSound get_pdr bytes
counted_part bytes v h =
    let part = h.3.3.3.3 in
    let many : length v.1.1.1.1.0 ≡ v.1.1.1.0 = ap length part.2.1 ∙ part.2.0 in
    record { kind_is = refl; fields = (refl, refl, subst (λ (n : ℕ). StandIn get_pdr.answer.layout (v.0, (v.1.0, (v.1.1.0, (n, v.1.1.1.1)))) bytes) (sym many) h) }

base_sound : (bytes : List ℕ) → AreSound BASE base_rows bytes
base_sound bytes = (
  refl,
  λ v h. record { kind_is = refl; fields = (refl, refl, h) },
  (
    refl,
    λ v h. record { kind_is = refl; fields = (refl, refl, h) },
    (
      refl,
      whole_versions bytes,
      (
        refl,
        λ v h. record { kind_is = refl; fields = (refl, refl, h) },
        (
          refl,
          λ v h. record { kind_is = refl; fields = (refl, refl, h) },
          tt,
        ),
      ),
    ),
  ),
)

platform_sound : (bytes : List ℕ) → AreSound PLATFORM platform_rows bytes
platform_sound bytes = (
  refl,
  λ v h. record { kind_is = refl; fields = (refl, refl, h) },
  (
    refl,
    counted_sensors bytes,
    (
      refl,
      λ v h. record { kind_is = refl; fields = (refl, refl, h) },
      (
        refl,
        λ v h. record { kind_is = refl; fields = (refl, refl, h) },
        (
          refl,
          λ v h. record { kind_is = refl; fields = (refl, refl, h) },
          (
            refl,
            counted_effecters bytes,
            (
              refl,
              λ v h. record { kind_is = refl; fields = (refl, refl, h) },
              (
                refl,
                counted_part bytes,
                tt,
              ),
            ),
          ),
        ),
      ),
    ),
  ),
)

success_sound : (pldm_type command : ℕ) (bytes : List ℕ)
    → IfOk (success_of (of_type pldm_type command) bytes) (λ a. AnswerFields a (of_type pldm_type command) SUCCESS bytes)
unfolding success_of
success_sound pldm_type command bytes =
    by_test (λ r. IfOk r (λ a. AnswerFields a (of_type pldm_type command) SUCCESS bytes)) (pldm_type == BASE) (answer_by base_rows command bytes) (if pldm_type == PLATFORM then answer_by platform_rows command bytes else Err OtherCommand)
    (λ t. rw (eqb-true pldm_type BASE t) (by_rows BASE base_rows command bytes (base_sound bytes)))
    (λ _. by_test (λ r. IfOk r (λ a. AnswerFields a (of_type pldm_type command) SUCCESS bytes)) (pldm_type == PLATFORM) (answer_by platform_rows command bytes) (Err OtherCommand)
    (λ t. rw (eqb-true pldm_type PLATFORM t) (by_rows PLATFORM platform_rows command bytes (platform_sound bytes)))
    (λ _. tt))

-- an answer whose values stand in the bytes, none of them fewer than there have to be
answer_read : (row : Row) (v : Values row.answer.layout) (bytes : List ℕ) → row.answer.least ≤ length bytes → StandIn row.answer.layout v bytes
    → answer_in row bytes ≡ Ok (row.answer.make v)
answer_read row v bytes enough h = data_read Length Value row.answer v bytes enough h

enough_for_reading : (v : Values get_sensor_reading.answer.layout) (bytes : List ℕ) → StandIn get_sensor_reading.answer.layout v bytes → 6 ≤ length bytes
enough_for_reading v bytes h =
    omega (arith, ap length h.4, ap length h.2, length-append h.0 h.1, ap length h.3.4, ap length h.3.2.0, length-append h.3.0 h.3.1, ap length h.3.3.4, ap length h.3.3.2.0, length-append h.3.3.0 h.3.3.1, ap length h.3.3.3.4, ap length h.3.3.3.2.0, length-append h.3.3.3.0 h.3.3.3.1, ap length h.3.3.3.3.4, ap length h.3.3.3.3.2.0, length-append h.3.3.3.3.0 h.3.3.3.3.1, ap length h.3.3.3.3.3.4, ap length h.3.3.3.3.3.2.0, length-append h.3.3.3.3.3.0 h.3.3.3.3.3.1)

enough_for_values : (v : Values get_numeric_effecter_value.answer.layout) (bytes : List ℕ) → StandIn get_numeric_effecter_value.answer.layout v bytes → 2 ≤ length bytes
enough_for_values v bytes h =
    omega (arith, ap length h.4, ap length h.2, length-append h.0 h.1, ap length h.3.4, ap length h.3.2.0, length-append h.3.0 h.3.1)

enough_for_part : (v : Values get_pdr.answer.layout) (bytes : List ℕ) → StandIn get_pdr.answer.layout v bytes → 11 ≤ length bytes
enough_for_part v bytes h =
    omega (arith, ap length h.4, h.2.0.0, length-append h.0 h.1, ap length h.3.4, h.3.2.0.0, length-append h.3.0 h.3.1, ap length h.3.3.4, ap length h.3.3.2, length-append h.3.3.0 h.3.3.1, ap length h.3.3.3.4, h.3.3.3.2.0.0, length-append h.3.3.3.0 h.3.3.3.1)

-- every answer whose fields stand in the bytes after SUCCESS is read
success_only : (a : Answer) (kind : TypeAndCommand) (bytes : List ℕ) → IsAnswerTo kind a → HasAnswerFields a SUCCESS bytes → success_of kind bytes ≡ Ok a
unfolding success_of
success_only (Refused refusal) kind bytes k h = absurd (omega (arith, h.0, h.1.0))
success_only SetTid kind bytes k h = rw k (answer_read set_tid tt bytes (omega arith) h.2)
success_only (GetTid a) kind bytes k h = rw k (answer_read get_tid (a, tt) bytes (omega arith) h.2)
success_only (GetPldmVersion a b) kind bytes k h = rw k (answer_read get_pldm_version (a, (START_AND_END, b)) bytes (omega arith) h.2)
success_only (GetPldmTypes a) kind bytes k h = rw k (answer_read get_pldm_types (a, tt) bytes (omega arith) h.2)
success_only (GetPldmCommands a) kind bytes k h = rw k (answer_read get_pldm_commands (a, tt) bytes (omega arith) h.2)
success_only (GetSensorReading a b c d e f) kind bytes k h =
    let v : Values get_sensor_reading.answer.layout = (f.size, (a, (b, (c, (d, (e, (f.value, tt))))))) in
    rw k (answer_read get_sensor_reading v bytes (enough_for_reading v bytes h.2) h.2)
success_only (GetStateSensorReadings a) kind bytes k h = rw k (answer_read get_state_sensor_readings (length a, (a, tt)) bytes (omega arith) h.2)
success_only SetNumericEffecterValue kind bytes k h = rw k (answer_read set_numeric_effecter_value tt bytes (omega arith) h.2)
success_only (GetNumericEffecterValue a b) kind bytes k h =
    let v : Values get_numeric_effecter_value.answer.layout = (b.pending.size, (a, (b.pending.value, (b.present.value, tt)))) in
    rw k (answer_read get_numeric_effecter_value v bytes (enough_for_values v bytes h.2) h.2 ∙ ap (λ x. Ok x) h.1)
success_only SetStateEffecterStates kind bytes k h = rw k (answer_read set_state_effecter_states tt bytes (omega arith) h.2)
success_only (GetStateEffecterStates a) kind bytes k h = rw k (answer_read get_state_effecter_states (length a, (a, tt)) bytes (omega arith) h.2)
success_only (GetPdrRepositoryInfo a b c d e f g) kind bytes k h =
    rw k (answer_read get_pdr_repository_info (a, (b, (c, (d, (e, (f, (g, tt))))))) bytes (omega arith) h.2)
success_only (GetPdr a b c) kind bytes k h =
    let v : Values get_pdr.answer.layout = (a, (b, (c.flag, (length c.bytes, (c.bytes, (c.transfer_crc, tt)))))) in
    rw k (answer_read get_pdr v bytes (enough_for_part v bytes h.2) h.2)

same_kind-true : (kind other : TypeAndCommand) → same_kind kind other ≡ true → kind ≡ other
same_kind-true kind other t =
    let parts = and_parts (kind.pldm_type == other.pldm_type) (kind.command == other.command) t in
    let types : kind.pldm_type ≡ other.pldm_type = eqb-true _ _ parts.0 in
    let commands : kind.command ≡ other.command = eqb-true _ _ parts.1 in
    ap (λ t. of_type t kind.command) types ∙ ap (λ c. of_type other.pldm_type c) commands

same_kind-self : (kind other : TypeAndCommand) → kind ≡ other → same_kind kind other ≡ true
same_kind-self kind other e =
    and_from _ _ (eq-eqb kind.pldm_type other.pldm_type (ap (λ k. k.pldm_type) e)) (eq-eqb kind.command other.command (ap (λ k. k.command) e))

-- what reading finds has its fields in the code and the bytes
pub found : (asked kind : TypeAndCommand) (code : ℕ) (bytes : List ℕ) → code < 256
    → IfOk (answer_of asked kind code bytes) (λ a. AnswersKind asked a kind code bytes)
found asked kind code bytes small =
    by_test (λ r. IfOk r (λ a. AnswersKind asked a kind code bytes)) (same_kind kind asked) _ (Err OtherCommand)
    (λ same. by_test (λ r. IfOk r (λ a. AnswersKind asked a kind code bytes)) (code == SUCCESS) (success_of kind bytes) (Ok (Refused code))
    (λ success. let is : code ≡ SUCCESS = eqb-true code SUCCESS success in
    IfOk-weaker (success_of kind bytes) _ _
    (λ a h. record { same_command = same_kind-true kind asked same; fields = rw is h })
    (success_sound kind.pldm_type kind.command bytes))
    (λ refused. let nonzero : code ≡ SUCCESS → ⊥ = eqb-false code SUCCESS refused in
    record { same_command = same_kind-true kind asked same; fields = record { kind_is = tt; fields = (refl, (omega arith, omega arith)) } }))
    (λ _. tt)

-- the same after the command was found to be the one
by_code : (a : Answer) (kind : TypeAndCommand) (code : ℕ) (bytes : List ℕ) → IsAnswerTo kind a → HasAnswerFields a code bytes
    → (if code == SUCCESS then success_of kind bytes else Ok (Refused code)) ≡ Ok a
by_code (Refused refusal) kind code bytes k h =
    cond-false (code == SUCCESS) _ _ (ne_eqb code SUCCESS (λ e. omega (arith, h.0, h.1.0))) ∙ ap (λ c. Ok (Refused c)) h.0
by_code a kind code bytes k h =
    cond-true (code == SUCCESS) _ _ (eq-eqb code SUCCESS h.0) ∙ success_only a kind bytes k (rw h.0 at h)

-- every answer whose fields stand in the code and the bytes is read
pub only : (asked : TypeAndCommand) (a : Answer) (kind : TypeAndCommand) (code : ℕ) (bytes : List ℕ)
    → AnswersKind asked a kind code bytes → answer_of asked kind code bytes ≡ Ok a
only asked a kind code bytes h =
    cond-true (same_kind kind asked) _ _ (same_kind-self kind asked h.same_command)
    ∙ by_code a kind code bytes h.fields.kind_is h.fields.fields

-- no code and bytes have the fields of two answers of one kind
pub one : (a b : Answer) (kind : TypeAndCommand) (code : ℕ) (bytes : List ℕ) → AnswerFields a kind code bytes → AnswerFields b kind code bytes → a ≡ b
one a b kind code bytes h g =
    let first = by_code a kind code bytes h.kind_is h.fields in
    let second = by_code b kind code bytes g.kind_is g.fields in
    cc

entry_written : (e : AnswerEntry) → EntryInRange e → EntryStands e (entry_bytes e)
entry_written (answers kind contents values) h = values_written contents.layout values h

-- the completion code and the data that an answer is written with have its fields
fields_written : (a : Answer) → IsAnswer a → HasAnswerFields a (code_of a) (answer_data a)
fields_written (Refused refusal) h = (refl, h)
fields_written SetTid h = (refl, h.0, entry_written (answer_entry SetTid) h.1)
fields_written (GetTid a) h = (refl, h.0, entry_written (answer_entry (GetTid a)) h.1)
fields_written (GetPldmVersion a b) h = (refl, h.0, entry_written (answer_entry (GetPldmVersion a b)) h.1)
fields_written (GetPldmTypes a) h = (refl, h.0, entry_written (answer_entry (GetPldmTypes a)) h.1)
fields_written (GetPldmCommands a) h = (refl, h.0, entry_written (answer_entry (GetPldmCommands a)) h.1)
fields_written (GetSensorReading a b c d e f) h = (refl, h.0, entry_written (answer_entry (GetSensorReading a b c d e f)) h.1)
fields_written (GetStateSensorReadings a) h = (refl, h.0, entry_written (answer_entry (GetStateSensorReadings a)) h.1)
fields_written SetNumericEffecterValue h = (refl, h.0, entry_written (answer_entry SetNumericEffecterValue) h.1)
fields_written (GetNumericEffecterValue a b) h = (refl, h.0, entry_written (answer_entry (GetNumericEffecterValue a b)) h.1)
fields_written SetStateEffecterStates h = (refl, h.0, entry_written (answer_entry SetStateEffecterStates) h.1)
fields_written (GetStateEffecterStates a) h = (refl, h.0, entry_written (answer_entry (GetStateEffecterStates a)) h.1)
fields_written (GetPdrRepositoryInfo a b c d e f g) h = (refl, h.0, entry_written (answer_entry (GetPdrRepositoryInfo a b c d e f g)) h.1)
fields_written (GetPdr a b c) h = (refl, h.0, entry_written (answer_entry (GetPdr a b c)) h.1)

pub written : (a : Answer) (kind : TypeAndCommand) → IsAnswerTo kind a → IsAnswer a → AnswerFields a kind (code_of a) (answer_data a)
written a kind to h = record { kind_is = to; fields = fields_written a h }
