-- A platform that keeps each terminus ID that it was given, and reports the last one: that of the tests.
use Rattle.std.specs.Prelude.{◌≡◌, ℕ, ◌-◌, ℤ, false, List, [], ◌∷◌, ◌++◌, length, slice_index, Result, Err, refl}
use Rattle.pldm_wire.specs.Answers.{IsAnswerTo}
use Rattle.pldm_wire.specs.Commands.{kind_of, sets}
use Rattle.pldm_wire.specs.declared.assigned.TheConstants.{ERROR_UNSUPPORTED_PLDM_CMD}
use Rattle.pldm_wire.specs.declared.command.Command.{Command}
use Rattle.pldm_wire.specs.declared.command.Command.TheVariants.{SetTid, GetTid}
use Rattle.pldm_wire.specs.declared.answer.Answer.{Answer}
use Rattle.pldm_wire.specs.declared.answer.Answer.TheVariants as answers
use Rattle.pldm_platform.specs.declared.platform.ReadingFault.{ReadingFault}
use Rattle.pldm_platform.specs.declared.platform.ReadingFault.TheVariants.{NoSuchSensor}

abbrev pub recorder_answer : List ℕ → Command → Answer
recorder_answer tids (SetTid tid) = answers.SetTid
recorder_answer tids GetTid = answers.GetTid (slice_index tids (length tids - 1))
recorder_answer tids _ = answers.Refused ERROR_UNSUPPORTED_PLDM_CMD

abbrev pub recorder_after : List ℕ → Command → List ℕ
recorder_after tids (SetTid tid) = tids ++ tid ∷ []
recorder_after tids _ = tids

abbrev pub recorder_sensed : List ℕ → ℕ → ℤ → Result (List ℕ) ReadingFault
recorder_sensed tids id value = Err NoSuchSensor

pub recorder_reads_only :
    (tids : List ℕ) (command : Command) → sets command ≡ false → recorder_after tids command ≡ tids
recorder_reads_only tids (SetTid tid) asks = cc
recorder_reads_only tids _ asks = refl

pub recorder_refusal :
    (tids : List ℕ) (command : Command) (code : ℕ)
    → recorder_answer tids command ≡ answers.Refused code → recorder_after tids command ≡ tids
recorder_refusal tids (SetTid tid) code refused = cc
recorder_refusal tids _ code refused = refl

pub recorder_answers : (tids : List ℕ) (command : Command) → IsAnswerTo (kind_of command) (recorder_answer tids command)
recorder_answers tids (SetTid tid) = refl
recorder_answers tids GetTid = refl
recorder_answers tids _ = tt
