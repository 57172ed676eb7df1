use Rattle.pldm_wire.specs.declared.answer.Answer.TheVariants as answers
use Rattle.simulated_device.specs.EffecterAnswers.{number_set}
use Rattle.simulated_device.proofs.Changed.{answered-outcome}
use Rattle.std.proofs.Common.{◌∙◌}
use Rattle.simulated_device.proofs.device.SimDevice.answer_into.Goals as goal

pub returns-in-SetNumericEffecterValue-clause-answer : goal.returns-in-SetNumericEffecterValue-clause-answer
returns-in-SetNumericEffecterValue-clause-answer c =
    rw c.in-SetNumericEffecterValue.is (c.put_outcome-in-SetNumericEffecterValue.ensures ∙ answered-outcome answers.SetNumericEffecterValue (number_set c.in-SetNumericEffecterValue.effecter c.in-SetNumericEffecterValue.value c.args.self.now) c.args.self.now c.set_number.new.self c.set_number.result c.set_number.ensures)
