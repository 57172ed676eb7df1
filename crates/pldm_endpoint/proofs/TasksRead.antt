-- What a request asks, by what was read of it.
use Rattle.std.proofs.Common.{◌≡◌, ℕ, Bool, true, false, ◌==◌, List, [], ◌∷◌, Option, Some, None, Ok, if◌then◌else◌, ap, ◌∙◌}
use Rattle.mctp_packet.specs.Reading.{unless}
use Rattle.mctp_packet.specs.declared.reason.Reason.{Reason}
use Rattle.pldm_wire.specs.Answers.{answer_message}
use Rattle.pldm_wire.specs.CommandReading.{command_of}
use Rattle.pldm_wire.specs.HandingOn.{hands_on}
use Rattle.pldm_wire.specs.Requests.{Request, request_of, request_refusal}
use Rattle.pldm_wire.specs.declared.answer.Answer.TheVariants.{Refused}
use Rattle.pldm_wire.specs.declared.assigned.TheConstants.{SUCCESS}
use Rattle.pldm_wire.specs.declared.command.Command.{Command}
use Rattle.pldm_wire.specs.declared.pass_through.PassThrough.{PassThrough}
use Rattle.pldm_responder.specs.Asked.{Given, gives}
use Rattle.pldm_responder.specs.Performing.{Perform, Respond, answer_to, changes, changes_at, changes_by, reply, reply_to, response_to, tasks_at, tasks_in, tasks_of}
use Rattle.pldm_endpoint.specs.Receiving.{IsRefusedBy}
use Rattle.pldm_endpoint.specs.TwoSteps.{request_at}

passed : (refusal : Option Reason) (read request : Request) → unless refusal read ≡ Ok request → request ≡ read
passed None read request h = cc
passed (Some reason) read request h = cc

-- bytes that are read as a request are that at its places
pub request_is : (bytes : List ℕ) (request : Request) → request_of bytes ≡ Ok request → request ≡ request_at bytes
unfolding request_of
request_is bytes request h = passed (request_refusal bytes) _ request h

module _ (handed : PassThrough) (bytes : List ℕ) (request : Request) (is : request_of bytes ≡ Ok request) where
  asks_by : (t : Bool) → hands_on handed request.kind ≡ t → tasks_of (hands_on handed) bytes ≡ (if t then Respond request ∷ [] else tasks_in (command_of request.kind request.rest))
  asks_by t h = ap (tasks_at (hands_on handed)) is ∙ ap (λ b. if b then Respond request ∷ [] else tasks_in (command_of request.kind request.rest)) h

  -- one that is handed on as bytes
  pub asks_response : hands_on handed request.kind ≡ true → tasks_of (hands_on handed) bytes ≡ Respond (request_at bytes) ∷ []
  asks_response h = asks_by true h ∙ ap (λ r. Respond r ∷ []) (request_is bytes request is)

  -- one whose command was read
  pub asks_command : (command : Command) → hands_on handed request.kind ≡ false → command_of request.kind request.rest ≡ Ok command → tasks_of (hands_on handed) bytes ≡ Perform command ∷ []
  asks_command command h read = asks_by false h ∙ ap tasks_in read

module _ (handed : PassThrough) (code : ℕ) (bytes : List ℕ) (given : Given) (refused : IsRefusedBy handed code bytes) where
  -- one that is refused by its code asks nothing
  pub asks_nothing : tasks_of (hands_on handed) bytes ≡ []
  asks_nothing = asks_by handed bytes refused.0 refused.1 false refused.2 ∙ ap tasks_in refused.3

  -- and that is what it is answered
  pub refused_reply : reply (gives (hands_on handed) given) tt bytes ≡ answer_message refused.0.id refused.0.kind (Refused code)
  refused_reply =
      let device = gives (hands_on handed) given in
      let r = refused.0 in
      ap (reply_to device tt) refused.1
      ∙ ap (λ t. if t then response_to r (device.respond tt r) else answer_message r.id r.kind (answer_to device tt (command_of r.kind r.rest))) refused.2
      ∙ ap (λ read. answer_message r.id r.kind (answer_to device tt read)) refused.3

  pub refused_changes : changes (gives (hands_on handed) given) tt bytes ≡ false
  refused_changes =
      let device = gives (hands_on handed) given in
      let r = refused.0 in
      ap (changes_at device tt) refused.1
      ∙ ap (λ t. if t then (device.respond tt r).code == SUCCESS else changes_by device tt (command_of r.kind r.rest)) refused.2
      ∙ ap (changes_by device tt) refused.3
