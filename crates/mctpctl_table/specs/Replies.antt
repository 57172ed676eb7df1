-- What came of a question, and what it says.
use Rattle.std.specs.Prelude.{ℕ, ◌==◌, List, length, slice_get, Option, Some, None, option_map, Result, Ok, Err}
use Rattle.std.specs.Prelude.{if◌then◌else◌}
use Rattle.mctp_packet.specs.declared.reason.Reason.{Reason}
use Rattle.pldm_wire.specs.AnswerReading.{answer_of}
use Rattle.pldm_wire.specs.Kinds.{TypeAndCommand}
use Rattle.pldm_wire.specs.Responses.{Response, response_of}
use Rattle.pldm_wire.specs.declared.answer.Answer.{Answer}
use Rattle.pldm_wire.specs.declared.answer.Answer.TheVariants.{GetSensorReading, GetStateSensorReadings}
use Rattle.pldm_wire.specs.declared.answer.Answer.TheVariants.{GetNumericEffecterValue, GetStateEffecterStates}
use Rattle.pldm_wire.specs.declared.answer_reading.AnswerFault.{AnswerFault}
use Rattle.pldm_wire.specs.declared.state_fields.EffecterStateField.{EffecterStateField}
use Rattle.pldm_wire.specs.declared.state_fields.SensorStateField.{SensorStateField}
use Rattle.mctpctl_table.specs.declared.reply.Reply.{Reply}
use Rattle.mctpctl_table.specs.declared.reply.Reply.TheVariants.{Silence, Wrong, Answered}
use Rattle.mctpctl_table.specs.declared.reading.NumericReading.{NumericReading}
use Rattle.mctpctl_table.specs.declared.reading.StateReading.{StateReading}

abbrev pub of_answer : Result Answer AnswerFault → Reply
of_answer (Ok answer) = Answered answer
of_answer (Err fault) = Wrong

abbrev pub of_response : TypeAndCommand → Result Response Reason → Reply
of_response kind (Ok r) = of_answer (answer_of kind r.kind r.code r.rest)
of_response kind (Err reason) = Wrong

-- what a message is to a command of this kind, or that none came
abbrev pub reply_to : TypeAndCommand → Option (List ℕ) → Reply
reply_to kind None = Silence
reply_to kind (Some bytes) = of_response kind (response_of bytes)

-- what a numeric sensor or effecter says: the present value, and of a sensor its present state
abbrev pub numeric_reading : Reply → Option NumericReading
numeric_reading (Answered (GetSensorReading operational enable present previous event reading)) =
    Some (record { value = reading.value; state = Some present; operational = operational })
numeric_reading (Answered (GetNumericEffecterValue operational values)) =
    Some (record { value = values.present.value; state = None; operational = operational })
numeric_reading reply = None

-- what one field of a state sensor or effecter says: its present state

abbrev pub of_sensor : SensorStateField → StateReading
of_sensor field = record { state = field.present; operational = field.operational }

abbrev pub of_effecter : EffecterStateField → StateReading
of_effecter field = record { state = field.present; operational = field.operational }

-- the field at a place, where there are as many as in the record
abbrev pub field_at : {A : Type 0} → (A → StateReading) → ℕ → ℕ → List A → Option StateReading
field_at reading count place fields =
    if length fields == count then option_map reading (slice_get fields place) else None

abbrev pub state_reading : ℕ → ℕ → Reply → Option StateReading
state_reading count place (Answered (GetStateSensorReadings fields)) = field_at of_sensor count place fields
state_reading count place (Answered (GetStateEffecterStates fields)) = field_at of_effecter count place fields
state_reading count place reply = None
