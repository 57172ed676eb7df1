-- What becomes of a packet, once `reply`, the message that answers it, is cut into packets.
use Rattle.std.specs.Prelude.{ℕ, ◌<◌, Bool, true, false, List, length, Option, Some, None, if◌then◌else◌}
use Rattle.mctp_packet.specs.declared.packet.Route.{Route}
use Rattle.mctp_packet.specs.Pieces.{written_packets}
use Rattle.pldm_responder.specs.declared.outcome.Outcome.{Outcome}
use Rattle.pldm_responder.specs.declared.outcome.Outcome.TheVariants as outcome
use Rattle.pldm_responder.specs.declared.outcome.MessageOutcome.{MessageOutcome}
use Rattle.pldm_responder.specs.declared.outcome.MessageOutcome.TheVariants.{Dropped, Partial, Answered}

abbrev pub answering : List ℕ → MessageOutcome → Outcome
answering reply (Dropped reason) = outcome.Dropped reason
answering reply Partial = outcome.Partial
answering reply (Answered fresh changed route) = outcome.Answered fresh changed (written_packets route reply)

-- where there is an answer, its message has bytes
abbrev pub HasReply : List ℕ → MessageOutcome → Type 0
HasReply reply (Dropped reason) = Unit {0}
HasReply reply Partial = Unit {0}
HasReply reply (Answered fresh changed route) = 0 < length reply

-- the packets of a kept answer, where a message is a copy and the answer is `reply`
abbrev pub packets_if : Bool → List (List ℕ) → Option (List (List ℕ))
packets_if is_copy packets = if is_copy then Some packets else None

-- what becomes of a message that is answered on this route: it is not performed, or it is, and it changed something
-- or not
abbrev pub outcome_on : Route → Option Bool → MessageOutcome
outcome_on route None = Answered false false route
outcome_on route (Some changed) = Answered true changed route
