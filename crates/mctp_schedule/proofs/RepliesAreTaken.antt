-- The reply to a request that a requester opened is a response of its own instance ID and kind, so the requester takes
-- it, unless it says that the device is not ready.
use Rattle.std.proofs.Common.{◌≡◌, ℕ, List, [], Bool, true, false, Ok, refl, sym, ap, ◌∙◌, arith, eq-eqb}
use Rattle.std.specs.Prelude.{not, ◌==◌, if◌then◌else◌}
use Rattle.std.proofs.lemmas.Bool.{and_from, cond-true, cond-false}
use Rattle.mctp_packet.specs.declared.reason.Reason.TheVariants.{NotReady}
use Rattle.pldm_wire.specs.Answers.{answer_data, answer_message, code_of}
use Rattle.pldm_wire.specs.CommandReading.{command_of}
use Rattle.pldm_wire.specs.Kinds.{IsKind}
use Rattle.pldm_wire.specs.Laws.{RequestReadBack, ResponseReadBack}
use Rattle.pldm_wire.specs.Messages.{response_message}
use Rattle.pldm_wire.specs.Requests.{Request, request, request_of}
use Rattle.pldm_wire.specs.Responses.{Response, response, response_of}
use Rattle.pldm_wire.specs.declared.answer.Answer.{Answer}
use Rattle.pldm_wire.specs.declared.assigned.TheConstants.{ERROR_NOT_READY}
use Rattle.pldm_responder.specs.Performing.{Rules, answer_to, busy_reply, busy_reply_to, reply, reply_to, response_to}
use Rattle.pldm_requester.specs.Arrivals.{Arrival, Drop, Answer as Answered, is_response_to, response_arrival}
use Rattle.pldm_requester.specs.Asks.{Ask}
use Rattle.pldm_requester.specs.Numbering.{id_of, message_with}
use Rattle.mctp_schedule.specs.TakenReplies.{is_ready}

-- the device reads a request as what was opened
pub request_read : RequestReadBack → (number : ℕ) (ask : Ask) → IsKind ask.kind → request_of (message_with number ask) ≡ Ok (request (id_of number) ask.kind ask.rest)
request_read back number ask kind =
    back (message_with number ask) (id_of number) ask.kind ask.rest
    (record { id_range = omega arith; kind_range = kind; reserved = 0; bit = omega arith; bytes_are = refl })

-- so its reply is a response to that
pub record AnswersRequest (number : ℕ) (ask : Ask) (message : List ℕ) : Type 0 where
  pub code : ℕ
  pub rest : List ℕ
  pub is : message ≡ response_message 0 (id_of number) ask.kind code rest

pub reply_answers : RequestReadBack → {S : Type 0} (device : Rules S) (state : S) (number : ℕ) (ask : Ask) → IsKind ask.kind → AnswersRequest number ask (reply device state (message_with number ask))
reply_answers back device state number ask kind = go (device.hands_on ask.kind) refl
  where
    r : Request
    r = request (id_of number) ask.kind ask.rest

    answer : Answer
    answer = answer_to device state (command_of ask.kind ask.rest)

    read : reply device state (message_with number ask) ≡ reply_to device state (Ok r)
    read = ap (reply_to device state) (request_read back number ask kind)

    go : (b : Bool) → device.hands_on ask.kind ≡ b → AnswersRequest number ask (reply device state (message_with number ask))
    go true handed = record {
      code = (device.respond state r).code;
      rest = (device.respond state r).rest;
      is = read ∙ cond-true (device.hands_on ask.kind) (response_to r (device.respond state r)) (answer_message (id_of number) ask.kind answer) handed;
    }
    go false performed = record {
      code = code_of answer;
      rest = answer_data answer;
      is = read ∙ cond-false (device.hands_on ask.kind) (response_to r (device.respond state r)) (answer_message (id_of number) ask.kind answer) performed;
    }

-- and a busy answer refuses it with the code that says so
pub busy_refuses : RequestReadBack → (number : ℕ) (ask : Ask) → IsKind ask.kind → busy_reply (message_with number ask) ≡ response_message 0 (id_of number) ask.kind ERROR_NOT_READY []
busy_refuses back number ask kind = ap busy_reply_to (request_read back number ask kind)

pub answer_read : ResponseReadBack → (number : ℕ) (ask : Ask) → IsKind ask.kind → (code : ℕ) (rest : List ℕ) → response_of (response_message 0 (id_of number) ask.kind code rest) ≡ Ok (response (id_of number) ask.kind code rest)
answer_read back number ask kind code rest =
    back (response_message 0 (id_of number) ask.kind code rest) (id_of number) ask.kind code rest
    (record { id_range = omega arith; kind_range = kind; reserved = 0; bit = omega arith; bytes_are = refl })

-- what a whole answer brings its request
abbrev pub whole_arrival : ℕ → List ℕ → Arrival
whole_arrival number message = if is_ready message then Answered number message else Drop NotReady

turned : (b : Bool) (x y : Arrival) → (if b then x else y) ≡ (if not b then y else x)
turned true x y = refl
turned false x y = refl

pub answer_arrives : ResponseReadBack → (is_mine : ℕ → Response → Bool) (number : ℕ) (ask : Ask) → IsKind ask.kind → (message : List ℕ)
    → ((response : Response) → is_mine number response ≡ is_response_to number ask.kind response) → AnswersRequest number ask message
    → response_arrival is_mine number message (response_of message) ≡ whole_arrival number message
answer_arrives back is_mine number ask kind message mine a =
    ap (λ m. response_arrival is_mine number m (response_of m)) a.is
    ∙ ap (response_arrival is_mine number whole) (answer_read back number ask kind a.code a.rest)
    ∙ cond-false (not (is_mine number got)) _ _ (ap not (mine got ∙ own))
    ∙ turned (a.code == ERROR_NOT_READY) (Drop NotReady) (Answered number whole)
    ∙ ap (whole_arrival number) (sym a.is)
  where
    whole : List ℕ
    whole = response_message 0 (id_of number) ask.kind a.code a.rest

    got : Response
    got = response (id_of number) ask.kind a.code a.rest

    own : is_response_to number ask.kind got ≡ true
    own = and_from (id_of number == id_of number) _ (eq-eqb (id_of number) (id_of number) refl) (and_from (ask.kind.pldm_type == ask.kind.pldm_type) _ (eq-eqb ask.kind.pldm_type ask.kind.pldm_type refl) (eq-eqb ask.kind.command ask.kind.command refl))
