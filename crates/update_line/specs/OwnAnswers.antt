-- The answer that an end has to a request of its own.
use Rattle.std.specs.Prelude.{ℕ, Option, Some, None, Result, Ok, Err, option_and_then}
use Rattle.pldm_line.specs.Ends.{answer_of}
use Rattle.pldm_requester.specs.Slots.{RequesterView, held_of}
use Rattle.pldm_wire.specs.Responses.{Response, response_of}
use Rattle.mctp_packet.specs.declared.reason.Reason.{Reason}

abbrev pub read_as : Result Response Reason → Option Response
read_as (Ok response) = Some response
read_as (Err reason) = None

-- the response in the message that its requester has as the answer
abbrev pub response_in : Option RequesterView → ℕ → Option Response
response_in None number = None
response_in (Some requester) number =
    option_and_then (λ message. read_as (response_of message)) (answer_of (held_of requester) number)
