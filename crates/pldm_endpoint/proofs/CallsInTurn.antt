-- What each call of an endpoint leaves, and what comes of it, over the list of its calls.
use Rattle.std.specs.FinMap as map
use Rattle.std.proofs.Common.{◌≡◌, ℕ, ◌⊎◌, inl, inr, Bool, true, false, List, [], ◌∷◌, Option, Some, None, if◌then◌else◌, refl, sym, ap, ◌∙◌, subst}
use Rattle.mctp_assembly.specs.Laws as assembly
use Rattle.mctp_assembly.specs.declared.key.Key.{Key}
use Rattle.pldm_wire.specs.HandingOn.{hands_on}
use Rattle.pldm_wire.specs.declared.restart_policy.RestartPolicy.{RestartPolicy}
use Rattle.pldm_wire.specs.declared.pass_through.PassThrough.{PassThrough}
use Rattle.pldm_responder.specs.Asked.{Given, gives}
use Rattle.pldm_responder.specs.Calls.{Assigned, Call, Received, Restart, outcome}
use Rattle.pldm_responder.specs.Events.{Message}
use Rattle.pldm_responder.specs.Laws.{IsLeftBy}
use Rattle.pldm_responder.specs.Looking.{ended_by, is_past_open}
use Rattle.pldm_responder.specs.OpenOrder.{ended_held}
use Rattle.pldm_responder.specs.OutsideAnswers.{message_in, outcome_of_answer}
use Rattle.pldm_responder.specs.Performing.{Perform, Respond, Task}
use Rattle.pldm_responder.specs.ResponderStates.{ResponderState, IsHeld}
use Rattle.pldm_responder.specs.Steps.{assigned_held, received_arrival, received_outcome, restarted_held}
use Rattle.pldm_responder.specs.declared.outcome.Outcome.{Outcome}
use Rattle.pldm_endpoint.specs.Histories.{AnsweredInTurn, AssignedInTurn, ComesOf, IsLeftInTurn, NewInTurn, ReceivedInTurn, RefusedInTurn, RestartedInTurn, StepLooksBack, held_once_given, in_turn, with_ended}
use Rattle.pldm_endpoint.specs.Receiving.{HasReceived}
use Rattle.pldm_endpoint.specs.Refusing.{refused_by, refused_request, refused_while}
use Rattle.pldm_endpoint.specs.RequestKeys.{PendingCommands, pending_at, request_key_of}
use Rattle.pldm_endpoint.specs.TwoSteps.{EndpointView, IsAnsweredBy, IsItsAnswer, answered_held, asked_now, asking_step, command_at, handle_of, held_in, pending_by, request_in, step_by, unasked}
use Rattle.pldm_endpoint.specs.declared.pending_commands.PendingCommand.{PendingCommand}
use Rattle.pldm_endpoint.specs.declared.step.CommandHandle.{CommandHandle}
use Rattle.pldm_endpoint.specs.declared.step.ReceiveRefusal.TheVariants.{BeingPerformed, OpenMessages, Performing}
use Rattle.pldm_endpoint.specs.declared.step.Step.{Step}
use Rattle.pldm_endpoint.specs.declared.step.Step.TheVariants.{Done}
use Rattle.pldm_endpoint.proofs.AnswersInTurn.{answered_in_turn as answered_by_parts, asked_looks_back, assigned_in_turn as assigned_by_parts, ended_in_turn as ended_by_parts, message_of_asked, new_in_turn as new_by_parts, one_asked, received_in_turn as received_by_parts, restarted_in_turn as restarted_by_parts, same_in_turn as same_by_parts, unasked_looks_back}
use Rattle.pldm_endpoint.proofs.ByParts.{IsFree, IsLeftByParts}
use Rattle.pldm_endpoint.proofs.PendingGlue.{just_put}

-- ---- an endpoint and its parts
in_parts : (answers : ℕ → Given) (e : EndpointView) (calls : List (Call ℕ)) → IsLeftInTurn answers e calls
    → IsLeftByParts e.end.own e.handed_on e.end.busy e.end.rows.window e.end.keep answers e.count e.pending (held_in e) calls
in_parts answers e calls h = record { ids = h.ids; left = h.left }

module _ (answers : ℕ → Given) (e : EndpointView) (own : ℕ) (busy : RestartPolicy) (window keep : ℕ) (calls : List (Call ℕ)) where
  at_own : IsLeftByParts own e.handed_on busy window keep answers e.count e.pending (held_in e) calls → IsLeftInTurn answers e calls
  at_own h =
      let held : ResponderState ℕ = held_once_given answers e in
      let left : IsLeftBy (in_turn e.handed_on answers) own busy window keep 0 held calls = h.left in
      record {
        ids = h.ids;
        left =
            subst (λ o. IsLeftBy (in_turn e.handed_on answers) o e.end.busy e.end.rows.window e.end.keep 0 held calls) (sym left.endpoint)
            (subst (λ b. IsLeftBy (in_turn e.handed_on answers) own b e.end.rows.window e.end.keep 0 held calls) (sym left.refusing)
            (subst (λ w. IsLeftBy (in_turn e.handed_on answers) own busy w e.end.keep 0 held calls) (sym left.windows)
            (subst (λ k. IsLeftBy (in_turn e.handed_on answers) own busy window k 0 held calls) (sym left.keeping) left)));
      }

  -- an endpoint whose parts these are
  pub together : (handed : PassThrough) (count : ℕ) (pending : PendingCommands) (held : ResponderState (Unit {0})) → e.handed_on ≡ handed → e.count ≡ count → e.pending ≡ pending → IsHeld (held_in e) held
      → IsLeftByParts own handed busy window keep answers count pending held calls → IsLeftInTurn answers e calls
  together handed count pending held handed_is count_is pending_is same h =
      at_own
      (subst (λ hs. IsLeftByParts own hs busy window keep answers e.count e.pending (held_in e) calls) (sym handed_is)
      (subst (λ n. IsLeftByParts own handed busy window keep answers n e.pending (held_in e) calls) (sym count_is)
      (subst (λ (p : PendingCommands). IsLeftByParts own handed busy window keep answers count p (held_in e) calls) (sym pending_is)
      (same_by_parts own handed busy window keep answers count pending (held_in e) held calls same h))))

-- ---- where a packet is not refused, nothing of its request's source and instance ID is pending
free_where_not : (e : EndpointView) (m : Message) (o : Option PendingCommand) → refused_while e m o ≡ None → o ≡ None
free_where_not e m None h = refl
free_where_not e m (Some a) h = absurd (never _ h)
  where
    never : (t : Bool) → (if t then Some BeingPerformed else Some Performing) ≡ None → ⊥
    never true is = cc
    never false is = cc

free_in : (e : EndpointView) (o : Option Message) → refused_request e o ≡ None → IsFree e.pending o
free_in e None h = tt
free_in e (Some m) h = free_where_not e m (map.get e.pending (request_key_of m)) h

pub free_where_accepted : (e : EndpointView) (moment : ℕ) (bytes : List ℕ) → refused_by e moment bytes ≡ None → IsFree e.pending (request_in (held_in e) moment bytes)
free_where_accepted e moment bytes h = free_in e (request_in (held_in e) moment bytes) (by (is_past_open e.end bytes) h)
  where
    by : (t : Bool) → (if t then Some OpenMessages else refused_request e (request_in (held_in e) moment bytes)) ≡ None → refused_request e (request_in (held_in e) moment bytes) ≡ None
    by true is = cc
    by false is = is

-- ---- the calls
pub new_in_turn : assembly.NewLooksBack → NewInTurn
new_in_turn looks answers own keeping handed limits most new h =
    together answers new _ _ _ _ [] _ 0 map.empty _ h.handed_on h.count h.idle h.held (new_by_parts looks _ handed _ _ _ answers)

ended_parts : assembly.ForgetLooksBack → (own : ℕ) (handed : PassThrough) (busy : RestartPolicy) (window keep : ℕ) (answers : ℕ → Given) (count : ℕ) (pending : PendingCommands) (held : ResponderState (Unit {0})) (calls : List (Call ℕ)) (ended : Option Key)
    → IsLeftByParts own handed busy window keep answers count pending held calls → IsLeftByParts own handed busy window keep answers count pending (ended_held ended held) (with_ended ended calls)
ended_parts looks own handed busy window keep answers count pending held calls None h = h
ended_parts looks own handed busy window keep answers count pending held calls (Some key) h = ended_by_parts looks own handed busy window keep answers count pending held calls key h

pub received_in_turn : assembly.FeedLooksBack → assembly.ForgetLooksBack → ReceivedInTurn
received_in_turn feeds forgets answers old new calls moment bytes taken left h =
    let after = received_by_parts feeds old.end.own old.handed_on old.end.busy old.end.rows.window old.end.keep answers old.count old.pending (held_in old) calls moment bytes (in_parts answers old calls left) (free_where_accepted old moment bytes h.accepted) in
    together answers new old.end.own old.end.busy old.end.rows.window old.end.keep (with_ended (ended_by old.end bytes) (Received moment bytes ∷ calls)) old.handed_on _ _ _ h.settings.handed_on h.count h.pending h.held
    (ended_parts forgets old.end.own old.handed_on old.end.busy old.end.rows.window old.end.keep answers _ _ _ (Received moment bytes ∷ calls) (ended_by old.end bytes) after)

-- what comes of a step
module _ (answers : ℕ → Given) (new : EndpointView) (expected : Outcome) where
  comes_of : (task : Task) (handle : CommandHandle) → IsAnsweredBy new.handed_on new.end.own handle (answers handle.number) (pending_at new.pending handle) expected → ComesOf answers new (asking_step task handle) expected
  comes_of (Perform command) handle h = h
  comes_of (Respond request) handle h = h

none_asked : (o : Outcome) (count : ℕ) (m : Option Message) (tasks : List Task) → tasks ≡ [] → step_by o count m tasks ≡ Done o
none_asked o count None tasks none = refl
none_asked o count (Some m) [] none = refl
none_asked o count (Some m) (task ∷ tasks) none = cc

module _ (feeds : assembly.FeedLooksBack) (answers : ℕ → Given) (old new : EndpointView) (calls : List (Call ℕ)) (moment : ℕ) (bytes : List ℕ) (taken : Step)
    (left : IsLeftInTurn answers old calls) (h : HasReceived old moment bytes new taken) where
  abbrev handed : PassThrough
  handed = old.handed_on

  abbrev held : ResponderState (Unit {0})
  held = held_in old

  abbrev expected : Outcome
  expected = outcome (in_turn handed answers) old.end.own old.end.busy old.end.rows.window old.end.keep 0 calls moment bytes

  parts : IsLeftByParts old.end.own handed old.end.busy old.end.rows.window old.end.keep answers old.count old.pending held calls
  parts = in_parts answers old calls left

  free : IsFree old.pending (request_in held moment bytes)
  free = free_where_accepted old moment bytes h.accepted

  own_stays : new.end.own ≡ old.end.own
  own_stays =
      h.held.own
      ∙ (received_by_parts feeds old.end.own handed old.end.busy old.end.rows.window old.end.keep answers old.count old.pending held calls moment bytes parts free).left.endpoint

  comes_now : asked_now handed held moment bytes ≡ [] → ComesOf answers new taken expected
  comes_now none =
      subst (λ s. ComesOf answers new s expected)
      (sym (h.step_is ∙ none_asked _ old.count (request_in held moment bytes) (asked_now handed held moment bytes) none))
      (unasked_looks_back feeds old.end.own handed old.end.busy old.end.rows.window old.end.keep answers old.count old.pending held calls moment bytes parts free none)

  comes_later : (task : Task) (m : Message) → asked_now handed held moment bytes ≡ task ∷ [] → request_in held moment bytes ≡ Some m → ComesOf answers new taken expected
  comes_later task m asked is =
      let handle = handle_of m old.count in
      let step_is : taken ≡ asking_step task handle =
      h.step_is ∙ (λ i. step_by (received_outcome (gives (hands_on handed) unasked) held moment bytes) old.count (is i) (asked i)) in
      let pending_is : new.pending ≡ map.insert old.pending (request_key_of m) (command_at m old.count task) =
      h.pending ∙ (λ i. pending_by old.pending old.count (is i) (asked i)) in
      let found : pending_at new.pending handle ≡ Some (command_at m old.count task) =
      ap (λ (p : PendingCommands). pending_at p handle) pending_is ∙ just_put old.pending (request_key_of m) (command_at m old.count task) in
      subst (λ s. ComesOf answers new s expected) (sym step_is)
      (comes_of answers new expected task handle
      (subst (λ o. IsAnsweredBy new.handed_on new.end.own handle (answers old.count) o expected) (sym found)
      (sym (asked_looks_back feeds old.end.own handed old.end.busy old.end.rows.window old.end.keep answers old.count old.pending held calls moment bytes m task parts free is asked)
      ∙ (λ i. outcome_of_answer (hands_on (sym h.settings.handed_on i)) (sym own_stays i) m.source m.tag m.bytes (answers old.count)))))

  comes : (asked_now handed held moment bytes ≡ []) ⊎ ((task : Task) × (asked_now handed held moment bytes ≡ task ∷ [])) → ComesOf answers new taken expected
  comes (inl none) = comes_now none
  comes (inr asked) =
      let m = message_of_asked handed answers old.count old.pending held left.ids (received_arrival held moment bytes) asked.0 asked.1 in
      comes_later asked.0 m.0 asked.1 (ap message_in m.1)

pub step_looks_back : assembly.FeedLooksBack → StepLooksBack
step_looks_back feeds answers old new calls moment bytes taken left h =
    comes feeds answers old new calls moment bytes taken left h (one_asked old.handed_on answers old.count old.pending (held_in old) left.ids (received_arrival (held_in old) moment bytes))

pub answered_in_turn : AnsweredInTurn
answered_in_turn answers old new calls handle sent left h = by (pending_at old.pending handle) refl h.its_answer
  where
    by : (o : Option PendingCommand) → pending_at old.pending handle ≡ o → IsItsAnswer o (answers handle.number) → IsLeftInTurn answers new calls
    by None is its = absurd its
    by (Some a) is its =
        together answers new old.end.own old.end.busy old.end.rows.window old.end.keep calls old.handed_on old.count _
        (answered_held old.handed_on (held_in old) handle (answers handle.number) (Some a))
        h.settings.handed_on h.count h.pending
        (subst (λ o. IsHeld (held_in new) (answered_held old.handed_on (held_in old) handle (answers handle.number) o)) is h.held)
        (answered_by_parts old.end.own old.handed_on old.end.busy old.end.rows.window old.end.keep answers old.count old.pending (held_in old) calls handle a (in_parts answers old calls left) is)

pub restarted_in_turn : assembly.NewLooksBack → RestartedInTurn
restarted_in_turn looks answers old new calls moment left held forgotten =
    together answers new old.end.own old.end.busy old.end.rows.window old.end.keep (Restart moment ∷ calls) old.handed_on old.count map.empty
    (restarted_held (held_in old) moment) forgotten.settings.handed_on forgotten.count forgotten.idle held
    (restarted_by_parts looks old.end.own old.handed_on old.end.busy old.end.rows.window old.end.keep answers old.count old.pending (held_in old) calls moment (in_parts answers old calls left))

pub assigned_in_turn : assembly.NewLooksBack → AssignedInTurn
assigned_in_turn looks answers old new calls moment eid left held forgotten =
    together answers new eid old.end.busy old.end.rows.window old.end.keep (Assigned moment old.end.own ∷ calls) old.handed_on old.count map.empty
    (assigned_held (held_in old) moment eid) forgotten.settings.handed_on forgotten.count forgotten.idle held
    (assigned_by_parts looks old.end.own old.handed_on old.end.busy old.end.rows.window old.end.keep answers old.count old.pending (held_in old) calls moment eid (in_parts answers old calls left))

pub refused_in_turn : RefusedInTurn
refused_in_turn answers old new calls left same =
    together answers new old.end.own old.end.busy old.end.rows.window old.end.keep calls old.handed_on old.count old.pending (held_in old)
    same.settings.handed_on same.count same.pending same.held (in_parts answers old calls left)
