-- The light of worked examples, with a level that any numeric effecter sets and sensor 1 reads, and terminus ID 1.
use Rattle.std.specs.Prelude.{ℕ, ◌==◌, ℤ, Result, Ok, Err, if◌then◌else◌}
use Rattle.pldm_wire.specs.declared.assigned.TheConstants.{ERROR_UNSUPPORTED_PLDM_CMD}
use Rattle.pldm_wire.specs.declared.command.Command.{Command}
use Rattle.pldm_wire.specs.declared.command.Command.TheVariants.{GetTid, SetNumericEffecterValue}
use Rattle.pldm_wire.specs.declared.answer.Answer.{Answer}
use Rattle.pldm_wire.specs.declared.answer.Answer.TheVariants as answers
use Rattle.pldm_platform.specs.declared.platform.ReadingFault.{ReadingFault}
use Rattle.pldm_platform.specs.declared.platform.ReadingFault.TheVariants.{NoSuchSensor}

abbrev pub light_answer : ℤ → Command → Answer
light_answer level (SetNumericEffecterValue effecter value) = answers.SetNumericEffecterValue
light_answer level GetTid = answers.GetTid 1
light_answer level _ = answers.Refused ERROR_UNSUPPORTED_PLDM_CMD

abbrev pub light_after : ℤ → Command → ℤ
light_after level (SetNumericEffecterValue effecter value) = value.value
light_after level _ = level

abbrev pub light_sensed : ℤ → ℕ → ℤ → Result ℤ ReadingFault
light_sensed level id value = if id == 1 then Ok value else Err NoSuchSensor
