-- What became of a delivered packet.
use Rattle.std.specs.Prelude.{◌≡◌, ℕ, List, Option, Some, None, option_and_then, slice_get}
use Rattle.pldm_responder.specs.Answering.{answering}
use Rattle.pldm_responder.specs.declared.outcome.Outcome.{Outcome}
use Rattle.pldm_responder.specs.declared.outcome.Outcome.TheVariants as outcomes
use Rattle.pldm_responder.specs.declared.outcome.MessageOutcome.{MessageOutcome}
use Rattle.mctp_schedule.specs.declared.delivery.KeptDelivery.{KeptDelivery}
use Rattle.mctp_schedule.specs.declared.delivery.KeptDelivery.TheVariants.{Short, Shared}

-- what is kept of a delivery, with its answer in place or shared, is its outcome
abbrev pub outcome_of : KeptDelivery → Outcome
outcome_of (Short taken reply) = answering reply taken
outcome_of (Shared taken reply) = answering reply.now taken

-- with some answer, this comes to the outcome
abbrev pub ComesTo : MessageOutcome → Outcome → Type 0
ComesTo taken outcome = (reply : List ℕ) × (answering reply taken ≡ outcome)

-- the packets of an answer
abbrev pub packets_of_outcome : Outcome → Option (List (List ℕ))
packets_of_outcome (outcomes.Dropped reason) = None
packets_of_outcome outcomes.Partial = None
packets_of_outcome (outcomes.Answered fresh changed packets) = Some packets

-- packet i of an answer
abbrev pub packet_of_outcome : Outcome → ℕ → Option (List ℕ)
packet_of_outcome outcome i = option_and_then (λ packets. slice_get packets i) (packets_of_outcome outcome)
