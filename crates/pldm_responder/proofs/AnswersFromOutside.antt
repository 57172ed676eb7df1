-- What comes of bytes is decided by the platform's answer to the command that they have it perform.
use Rattle.std.proofs.Common.{◌≡◌, ℕ, Bool, true, false, not, ◌&&◌, ◌==◌, take, List, [], ◌∷◌, Option, Some, None, Result, Ok, Err, if◌then◌else◌, refl, sym, ap, subst}
use Rattle.mctp_packet.specs.declared.reason.Reason.{Reason}
use Rattle.pldm_wire.specs.Answers.{answer_message, code_of}
use Rattle.pldm_wire.specs.Commands.{sets}
use Rattle.pldm_wire.specs.declared.assigned.TheConstants.{SUCCESS}
use Rattle.pldm_wire.specs.Requests.{Request, request_of}
use Rattle.pldm_wire.specs.CommandReading.{command_of}
use Rattle.pldm_wire.specs.declared.command.Command.{Command}
use Rattle.pldm_responder.specs.Arrivals.{Arrival, Drop, Part, Whole, packets_back}
use Rattle.pldm_responder.specs.Asked.{AnswerDecides, Given, IsAsGiven, IsFresh, IsGivenBy, NoneIsAsked, gives, over, response_in}
use Rattle.pldm_responder.specs.Events.{Message}
use Rattle.pldm_responder.specs.ResponderStates.{Entry, ResponderState, id_in}
use Rattle.pldm_responder.specs.Performing.{Respond, Response, Rules, Task, answer_to, busy_reply, changes_at, changes_by, reply_to, response_to, tasks_at, tasks_in, tasks_of}
use Rattle.pldm_responder.specs.Steps.{arrival_asks, arrival_held, arrival_outcome, copied_packets, entry_for, entry_of, performs, received_arrival, received_tasks, refuses_now, repeats, served}
use Rattle.pldm_responder.specs.Recency.{renewed}
use Rattle.pldm_responder.specs.declared.outcome.Outcome.TheVariants.{Answered}

-- what is asked is the one thing that this is given for, or nothing
abbrev IsGiven : {S : Type 0} → Rules S → S → Given → List Task → Type 0
IsGiven device state given [] = Unit {0}
IsGiven device state given (task ∷ tasks) = IsGivenBy device state task given

module _ {S : Type 0} (device : Rules S) (held : ResponderState S) (given : Given) where
  abbrev bare : ResponderState (Unit {0})
  bare = over tt held

  -- the platform without a state that gives it
  abbrev giver : Rules (Unit {0})
  giver = gives device.hands_on given

  -- what a request asks of this one
  abbrev asks : List ℕ → List Task
  asks bytes = tasks_of device.hands_on bytes

  answers : (r : Result Command ℕ) → IsGiven device held.state given (tasks_in r) → answer_to device held.state r ≡ answer_to giver tt r
  answers (Ok command) is_given = is_given
  answers (Err code) is_given = refl

  changed : (r : Result Command ℕ) → IsGiven device held.state given (tasks_in r) → changes_by device held.state r ≡ changes_by giver tt r
  changed (Ok command) is_given = ap (λ a. sets command && code_of a == SUCCESS) is_given
  changed (Err code) is_given = refl

  -- t for a request that is handed on as bytes
  replied_by : (t : Bool) (request : Request) → IsGiven device held.state given (if t then Respond request ∷ [] else tasks_in (command_of request.kind request.rest))
      → (if t then response_to request (device.respond held.state request) else answer_message request.id request.kind (answer_to device held.state (command_of request.kind request.rest)))
      ≡ (if t then response_to request (response_in given) else answer_message request.id request.kind (answer_to giver tt (command_of request.kind request.rest)))
  replied_by true request is_given = ap (response_to request) is_given
  replied_by false request is_given = ap (answer_message request.id request.kind) (answers (command_of request.kind request.rest) is_given)

  replied_at : (q : Result Request Reason) → IsGiven device held.state given (tasks_at device.hands_on q) → reply_to device held.state q ≡ reply_to giver tt q
  replied_at (Ok request) is_given = replied_by (device.hands_on request.kind) request is_given
  replied_at (Err reason) is_given = refl

  changed_by : (t : Bool) (request : Request) → IsGiven device held.state given (if t then Respond request ∷ [] else tasks_in (command_of request.kind request.rest))
      → (if t then (device.respond held.state request).code == SUCCESS else changes_by device held.state (command_of request.kind request.rest))
      ≡ (if t then (response_in given).code == SUCCESS else changes_by giver tt (command_of request.kind request.rest))
  changed_by true request is_given = ap (λ (r : Response). r.code == SUCCESS) is_given
  changed_by false request is_given = changed (command_of request.kind request.rest) is_given

  changed_at : (q : Result Request Reason) → IsGiven device held.state given (tasks_at device.hands_on q) → changes_at device held.state q ≡ changes_at giver tt q
  changed_at (Ok request) is_given = changed_by (device.hands_on request.kind) request is_given
  changed_at (Err reason) is_given = refl

  -- t for a copy
  by_copy : (t : Bool) (m : Message) (packets : List (List ℕ)) → IsGiven device held.state given (if not t then asks m.bytes else [])
      → served device held m (if t then Some packets else None) ≡ served giver bare m (if t then Some packets else None)
  by_copy true m packets is_given = refl
  by_copy false m packets is_given =
      λ i. Answered true (changed_at (request_of m.bytes) is_given i) (packets_back held.own m (replied_at (request_of m.bytes) is_given i))

  by_entry : (m : Message) (o : Option Entry) → IsGiven device held.state given (if not (repeats held.keep m o) then asks m.bytes else [])
      → served device held m (copied_packets held.own held.keep m o) ≡ served giver bare m (copied_packets held.own held.keep m o)
  by_entry m None is_given = by_copy false m [] is_given
  by_entry m (Some e) is_given = by_copy (repeats held.keep m (Some e)) m (packets_back held.own m e.answer) is_given

  by_busy : (t : Bool) (m : Message) → IsGiven device held.state given (if not t && not (repeats held.keep m (entry_for held m)) then asks m.bytes else [])
      → (if t then Answered false false (packets_back held.own m (busy_reply m.bytes)) else served device held m (copied_packets held.own held.keep m (entry_for held m)))
      ≡ (if t then Answered false false (packets_back held.own m (busy_reply m.bytes)) else served giver bare m (copied_packets held.own held.keep m (entry_for held m)))
  by_busy true m is_given = refl
  by_busy false m is_given = by_entry m (entry_for held m) is_given

  by_arrival : (a : Arrival) → IsGiven device held.state given (arrival_asks held asks a) → arrival_outcome device held a ≡ arrival_outcome giver bare a
  by_arrival (Drop reason) is_given = refl
  by_arrival Part is_given = refl
  by_arrival (Whole m) is_given = by_busy (refuses_now held m) m is_given

  -- performs for t
  keeps_by : (p t : Bool) (m : Message) (kept : List Entry) → IsGiven device held.state given (if t then asks m.bytes else [])
      → (if p && t then take held.window (renewed id_in (entry_of device held m) kept) else kept) ≡ (if p && t then take held.window (renewed id_in (entry_of giver bare m) kept) else kept)
  keeps_by false t m kept is_given = refl
  keeps_by true false m kept is_given = refl
  keeps_by true true m kept is_given =
      λ i. take held.window (renewed id_in (record { moment = m.moment; bytes = m.bytes; answer = replied_at (request_of m.bytes) is_given i }) kept)

  keeps : (a : Arrival) → IsGiven device held.state given (arrival_asks held asks a) → (source : ℕ)
      → (arrival_held device held a).kept source ≡ (arrival_held giver bare a).kept source
  keeps (Drop reason) is_given source = refl
  keeps Part is_given source = refl
  keeps (Whole m) is_given source = keeps_by (m.source == source) (performs held m) m (held.kept source) is_given

  stateless : (x y : Unit {0}) → x ≡ y
  stateless x y = refl

  as_given : (moment : ℕ) (bytes : List ℕ) → IsGiven device held.state given (received_tasks held device.hands_on moment bytes) → IsAsGiven device held moment bytes given
  as_given moment bytes is_given = record {
    outcome = by_arrival (received_arrival held moment bytes) is_given;
    left = record {
      own = owns (received_arrival held moment bytes);
      busy = busy_is (received_arrival held moment bytes);
      window = window_is (received_arrival held moment bytes);
      keep = keep_is (received_arrival held moment bytes);
      open_messages = refl;
      kept = keeps (received_arrival held moment bytes) is_given;
      state = stateless _ _;
      serves_from = from (received_arrival held moment bytes);
      last = refl;
    };
  }
    where
      owns : (a : Arrival) → (arrival_held device held a).own ≡ (arrival_held giver bare a).own
      owns (Drop reason) = refl
      owns Part = refl
      owns (Whole m) = refl

      busy_is : (a : Arrival) → (arrival_held device held a).busy ≡ (arrival_held giver bare a).busy
      busy_is (Drop reason) = refl
      busy_is Part = refl
      busy_is (Whole m) = refl

      window_is : (a : Arrival) → (arrival_held device held a).window ≡ (arrival_held giver bare a).window
      window_is (Drop reason) = refl
      window_is Part = refl
      window_is (Whole m) = refl

      keep_is : (a : Arrival) → (arrival_held device held a).keep ≡ (arrival_held giver bare a).keep
      keep_is (Drop reason) = refl
      keep_is Part = refl
      keep_is (Whole m) = refl

      from : (a : Arrival) → (arrival_held device held a).serves_from ≡ (arrival_held giver bare a).serves_from
      from (Drop reason) = refl
      from Part = refl
      from (Whole m) = refl

  fresh_by_copy : (t : Bool) (m : Message) (packets : List (List ℕ)) (task : Task) → (if not t then asks m.bytes else []) ≡ task ∷ []
      → IsFresh (served device held m (if t then Some packets else None))
  fresh_by_copy true m packets task h = cc
  fresh_by_copy false m packets task h = refl

  fresh_by_entry : (m : Message) (o : Option Entry) (task : Task) → (if not (repeats held.keep m o) then asks m.bytes else []) ≡ task ∷ []
      → IsFresh (served device held m (copied_packets held.own held.keep m o))
  fresh_by_entry m None task h = refl
  fresh_by_entry m (Some e) task h = fresh_by_copy (repeats held.keep m (Some e)) m (packets_back held.own m e.answer) task h

  fresh_by_busy : (t : Bool) (m : Message) (task : Task) → (if not t && not (repeats held.keep m (entry_for held m)) then asks m.bytes else []) ≡ task ∷ []
      → IsFresh (if t then Answered false false (packets_back held.own m (busy_reply m.bytes)) else served device held m (copied_packets held.own held.keep m (entry_for held m)))
  fresh_by_busy true m task h = cc
  fresh_by_busy false m task h = fresh_by_entry m (entry_for held m) task h

  fresh : (a : Arrival) (task : Task) → arrival_asks held asks a ≡ task ∷ [] → IsFresh (arrival_outcome device held a)
  fresh (Drop reason) task h = cc
  fresh Part task h = cc
  fresh (Whole m) task h = fresh_by_busy (refuses_now held m) m task h

module _ {S : Type 0} (device : Rules S) where
  pub answer_decides : AnswerDecides device
  answer_decides held moment bytes task given asked is_given = (
    as_given device held given moment bytes (subst (IsGiven device held.state given) (sym asked) is_given),
    fresh device held given (received_arrival held moment bytes) task asked,
  )

  pub none_is_asked : NoneIsAsked device
  none_is_asked held moment bytes given asked =
      as_given device held given moment bytes (subst (IsGiven device held.state given) (sym asked) tt)
