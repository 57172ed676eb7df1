-- What becomes of a packet, once `reply`, the message that answers it, is cut into packets.
use Rattle.std.specs.Prelude.{ℕ, List}
use Rattle.pldm_responder.specs.Answering.{HasReply, answering}
use Rattle.pldm_endpoint.specs.declared.step.Step.{Step}
use Rattle.pldm_endpoint.specs.declared.step.Step.TheVariants as step
use Rattle.pldm_endpoint.specs.declared.step.MessageStep.{MessageStep}
use Rattle.pldm_endpoint.specs.declared.step.MessageStep.TheVariants.{Perform, Respond, Done}

abbrev pub stepping : List ℕ → MessageStep → Step
stepping reply (Perform handle) = step.Perform handle
stepping reply (Respond handle) = step.Respond handle
stepping reply (Done taken) = step.Done (answering reply taken)

-- where there is an answer, its message has bytes
abbrev pub StepHasReply : List ℕ → MessageStep → Type 0
StepHasReply reply (Perform handle) = Unit {0}
StepHasReply reply (Respond handle) = Unit {0}
StepHasReply reply (Done taken) = HasReply reply taken
