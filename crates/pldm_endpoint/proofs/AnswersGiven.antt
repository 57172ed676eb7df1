-- The message that answers a request, where the device gave this for it.
use Rattle.std.proofs.Common.{◌≡◌, ℕ, Bool, true, false, ◌&&◌, ◌==◌, List, [], ◌∷◌, Result, Ok, Err, if◌then◌else◌, refl, sym, ap, ◌∙◌}
use Rattle.std.proofs.lemmas.Result.{IfOk-at_ok}
use Rattle.mctp_packet.specs.declared.reason.Reason.{Reason}
use Rattle.pldm_wire.specs.Answers.{answer_message, code_of}
use Rattle.pldm_wire.specs.CommandReading.{command_of}
use Rattle.pldm_wire.specs.Commands.{CommandFields, kind_of, sets}
use Rattle.pldm_wire.specs.HandingOn.{hands_on}
use Rattle.pldm_wire.specs.Headers.{id_at, kind_at}
use Rattle.pldm_wire.specs.Messages.{response_message}
use Rattle.pldm_wire.specs.Requests.{Request, request_of}
use Rattle.pldm_wire.specs.declared.answer.Answer.{Answer}
use Rattle.pldm_wire.specs.declared.assigned.TheConstants.{SUCCESS}
use Rattle.pldm_wire.specs.declared.command.Command.{Command}
use Rattle.pldm_wire.specs.declared.pass_through.PassThrough.{PassThrough}
use Rattle.pldm_wire.proofs.ReadCommands.{found}
use Rattle.pldm_responder.specs.Asked.{Answered, Responded, gives}
use Rattle.pldm_responder.specs.Performing.{Perform, Respond, Response, answer_to, changes, changes_at, changes_by, reply, reply_to, response_to, tasks_at, tasks_in, tasks_of}
use Rattle.pldm_responder.proofs.ServedRequests.{id_of_request}
use Rattle.pldm_endpoint.specs.TwoSteps.{request_at}

-- ---- a command is asked
command_in : (r : Result Command ℕ) (command : Command) → tasks_in r ≡ Perform command ∷ [] → r ≡ Ok command
command_in (Ok c) command h = cc
command_in (Err code) command h = cc

not_handed : (t : Bool) (request : Request) (r : Result Command ℕ) (command : Command) → (if t then Respond request ∷ [] else tasks_in r) ≡ Perform command ∷ [] → (t ≡ false) × (r ≡ Ok command)
not_handed true request r command h = cc
not_handed false request r command h = (refl, command_in r command h)

-- the request that carries it
request_in : (hands_on : _) (q : Result Request Reason) (command : Command) → tasks_at hands_on q ≡ Perform command ∷ []
    → (request : Request) × (q ≡ Ok request) × (hands_on request.kind ≡ false) × (command_of request.kind request.rest ≡ Ok command)
request_in hands_on (Ok request) command h =
    let is = not_handed (hands_on request.kind) request (command_of request.kind request.rest) command h in
    (request, refl, is.0, is.1)
request_in hands_on (Err reason) command h = cc

module _ (handed : PassThrough) (bytes : List ℕ) (command : Command) (given : Answer) (asked : tasks_of (hands_on handed) bytes ≡ Perform command ∷ []) where
  -- the message that answers it
  pub replied : reply (gives (hands_on handed) (Answered given)) tt bytes ≡ answer_message (id_at bytes) (kind_of command) given
  replied =
      let device = gives (hands_on handed) (Answered given) in
      let is = request_in (hands_on handed) (request_of bytes) command asked in
      let fields : CommandFields command is.0.kind is.0.rest = IfOk-at_ok (λ c. CommandFields c is.0.kind is.0.rest) is.3 (found is.0.kind is.0.rest) in
      ap (reply_to device tt) is.1
      ∙ ap (λ t. if t then response_to is.0 (device.respond tt is.0) else answer_message is.0.id is.0.kind (answer_to device tt (command_of is.0.kind is.0.rest))) is.2
      ∙ ap (λ r. answer_message is.0.id is.0.kind (answer_to device tt r)) is.3
      ∙ ap (λ kind. answer_message is.0.id kind given) fields.kind_is
      ∙ ap (λ id. answer_message id (kind_of command) given) (id_of_request bytes is.0 is.1)

  -- whether it was changed
  pub changed : changes (gives (hands_on handed) (Answered given)) tt bytes ≡ (sets command && code_of given == SUCCESS)
  changed =
      let device = gives (hands_on handed) (Answered given) in
      let is = request_in (hands_on handed) (request_of bytes) command asked in
      ap (changes_at device tt) is.1
      ∙ ap (λ t. if t then (device.respond tt is.0).code == SUCCESS else changes_by device tt (command_of is.0.kind is.0.rest)) is.2
      ∙ ap (changes_by device tt) is.3

-- ---- a request is handed on as bytes
not_read : (r : Result Command ℕ) (request : Request) → tasks_in r ≡ Respond request ∷ [] → ⊥
not_read (Ok c) request h = cc
not_read (Err code) request h = cc

handed_by : (t : Bool) (request asked : Request) (r : Result Command ℕ) → (if t then Respond request ∷ [] else tasks_in r) ≡ Respond asked ∷ [] → (t ≡ true) × (request ≡ asked)
handed_by true request asked r h = (refl, cc)
handed_by false request asked r h = absurd (not_read r asked h)

handed_in : (hands_on : _) (q : Result Request Reason) (asked : Request) → tasks_at hands_on q ≡ Respond asked ∷ [] → (q ≡ Ok asked) × (hands_on asked.kind ≡ true)
handed_in hands_on (Ok request) asked h =
    let is = handed_by (hands_on request.kind) request asked (command_of request.kind request.rest) h in
    (ap Ok is.1, ap (λ (r : Request). hands_on r.kind) (sym is.1) ∙ is.0)
handed_in hands_on (Err reason) asked h = cc

module _ (handed : PassThrough) (bytes : List ℕ) (given : Response) (asked : tasks_of (hands_on handed) bytes ≡ Respond (request_at bytes) ∷ []) where
  -- the message that answers it
  pub responded : reply (gives (hands_on handed) (Responded given)) tt bytes ≡ response_message 0 (id_at bytes) (kind_at bytes) given.code given.rest
  responded =
      let device = gives (hands_on handed) (Responded given) in
      let r = request_at bytes in
      let is = handed_in (hands_on handed) (request_of bytes) r asked in
      ap (reply_to device tt) is.0
      ∙ ap (λ t. if t then response_to r given else answer_message r.id r.kind (answer_to device tt (command_of r.kind r.rest))) is.1

  -- whether it counts as a change
  pub response_changed : changes (gives (hands_on handed) (Responded given)) tt bytes ≡ (given.code == SUCCESS)
  response_changed =
      let device = gives (hands_on handed) (Responded given) in
      let r = request_at bytes in
      let is = handed_in (hands_on handed) (request_of bytes) r asked in
      ap (changes_at device tt) is.0
      ∙ ap (λ t. if t then given.code == SUCCESS else changes_by device tt (command_of r.kind r.rest)) is.1
