-- The commands of platform monitoring and control.
use Rattle.pldm_wire.specs.AnswerReading.{success_of}
use Rattle.pldm_wire.proofs.answer_reading.success_in.Goals as goal

pub returns-in-2 : goal.returns-in-2
unfolding success_of
returns-in-2 c = rw (← c.kind.view_is, c.in-2.is) c.platform_answer_in.ensures
