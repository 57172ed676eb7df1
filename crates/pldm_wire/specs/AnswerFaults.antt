-- Why a response is no answer to a command: the faults' numbers.
use Rattle.std.specs.Prelude.{ℕ}
use Rattle.pldm_wire.specs.declared.answer_reading.AnswerFault.{AnswerFault}
use Rattle.pldm_wire.specs.declared.answer_reading.AnswerFault.TheVariants.{OtherCommand, Length, Value}

abbrev pub number_of_answer_fault : AnswerFault → ℕ
number_of_answer_fault OtherCommand = 1
number_of_answer_fault Length = 2
number_of_answer_fault Value = 3
