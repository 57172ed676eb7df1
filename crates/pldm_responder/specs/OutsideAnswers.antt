-- What goes out of an endpoint for an answer from outside, which comes after its request.
use Rattle.std.specs.Prelude.{ℕ, Bool, true, List, Option, Some, None}
use Rattle.pldm_wire.specs.Kinds.{TypeAndCommand}
use Rattle.pldm_responder.specs.Arrivals.{Arrival, Drop, Part, Whole, message_of, packets_back}
use Rattle.pldm_responder.specs.Asked.{Given, gives}
use Rattle.pldm_responder.specs.Events.{Message}
use Rattle.pldm_responder.specs.Performing.{changes, reply}
use Rattle.pldm_responder.specs.declared.outcome.Outcome.{Outcome}
use Rattle.pldm_responder.specs.declared.outcome.Outcome.TheVariants.{Answered}

-- the request that arrives, if one does
abbrev pub message_in : Arrival → Option Message
message_in (Drop reason) = None
message_in Part = None
message_in (Whole m) = Some m

-- what goes out of the endpoint `own` for the request of these bytes, whose packets had this source and tag: it was
-- performed, or handed on as bytes
abbrev pub outcome_of_answer : (TypeAndCommand → Bool) → ℕ → ℕ → ℕ → List ℕ → Given → Outcome
outcome_of_answer hands_on own source tag bytes given =
    Answered true (changes (gives hands_on given) tt bytes)
    (packets_back own (message_of source tag 0 bytes) (reply (gives hands_on given) tt bytes))
