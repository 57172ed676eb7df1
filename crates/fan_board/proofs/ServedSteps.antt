-- The two steps of the endpoint, one right after the other, are what a responder does.
use Rattle.std.specs.FinMap as map
use Rattle.std.proofs.Common.{◌≡◌, ℕ, ◌⊎◌, inl, inr, cond, Bool, true, false, List, [], ◌∷◌, Option, Some, None, option_map, refl, sym, ap, ◌∙◌, subst}
use Rattle.std.specs.Ordering.{eq_by_cmp}
use Rattle.pldm_wire.specs.HandingOn.{hands_on}
use Rattle.pldm_wire.specs.Requests.{Request}
use Rattle.pldm_wire.specs.declared.command.Command.{Command}
use Rattle.pldm_wire.specs.declared.pass_through.PassThrough.{PassThrough}
use Rattle.pldm_responder.specs.Arrivals.{Arrival, Drop, Part, Whole}
use Rattle.pldm_responder.specs.Asked.{Given, gives, listed}
use Rattle.pldm_responder.specs.Events.{Message}
use Rattle.pldm_responder.specs.ResponderStates.{ResponderState, IsHeld}
use Rattle.pldm_responder.specs.Looking.{ended_by}
use Rattle.pldm_responder.specs.OpenOrder.{ended_held, without}
use Rattle.pldm_responder.specs.Performing.{Task}
use Rattle.pldm_responder.specs.Performing as task
use Rattle.pldm_responder.specs.Steps.{arrival_held, received_arrival, received_held, received_outcome}
use Rattle.pldm_responder.specs.declared.outcome.Outcome.{Outcome}
use Rattle.pldm_endpoint.specs.Histories.{TwoStepsAreOne}
use Rattle.pldm_endpoint.specs.Receiving.{HasAnswered, HasReceived}
use Rattle.pldm_endpoint.specs.RequestKeys.{PendingCommands, pending_at, request_key, request_key_cmp, request_key_of}
use Rattle.pldm_endpoint.specs.TwoSteps.{ArePendingAt, EndpointView, IsAnsweredBy, IsAskedBy, IsHandedOn, answered_held, arrival_tasks, asked_now, asking_step, command_at, handle_of, held_after, held_in, kept_by, pending_by, request_at, request_in, step_by, stepped, task_for, task_in, unasked}
use Rattle.pldm_endpoint.specs.Giving.{pending_command, response_of}
use Rattle.pldm_endpoint.specs.declared.pending_commands.PendingCommand.{PendingCommand}
use Rattle.pldm_endpoint.specs.declared.pending_commands.RequestKey.{RequestKey}
use Rattle.pldm_endpoint.specs.declared.step.CommandHandle.{CommandHandle}
use Rattle.pldm_endpoint.specs.declared.step.Step.{Step}
use Rattle.pldm_endpoint.specs.declared.step.Step.TheVariants.{Done, Perform, Respond}
use Rattle.pldm_responder.proofs.SameHeld.{same_held}
use Rattle.pldm_endpoint.proofs.KeyOrder.{request_keys_exact, request_keys_total}
use Rattle.pldm_endpoint.proofs.PendingGlue.{just_put}
use Rattle.fan_board.specs.BoardCommands.{board_response}
use Rattle.fan_board.specs.Boards.{BoardState}
use Rattle.fan_board.specs.Served.{IsServed, answer_given, board_asked, board_given, board_response_to, board_served}

-- what is pending alone and answered leaves nothing pending
none_left : (key : RequestKey) (a : PendingCommand) → map.remove (map.insert {R = request_key_cmp} map.empty key a) key ≡ map.empty
none_left key a = map.same_map request_keys_total request_keys_exact _ _ (λ q. map.get-remove request_keys_total (map.insert map.empty key a) key q ∙ at (eq_by_cmp request_key_cmp q key) q refl)
  where
    at : (t : Bool) (q : RequestKey) → eq_by_cmp request_key_cmp q key ≡ t → cond t None (map.get (map.insert {R = request_key_cmp} map.empty key a) q) ≡ map.get {R = request_key_cmp} map.empty q
    at true q is = sym (map.get-empty request_key_cmp q)
    at false q is = map.get-insert request_keys_total map.empty key a q ∙ ap (λ t. cond t (Some a) (map.get {R = request_key_cmp} map.empty q)) is

one_listed : {A : Type 0} (o : Option A) (x : A) (xs : List A) → listed o ≡ x ∷ xs → xs ≡ []
one_listed None x xs h = cc
one_listed (Some y) x xs h = cc

-- the handle under which this step asks something
abbrev pub IsUnder : CommandHandle → Step → Type 0
IsUnder handle step = (step ≡ Perform handle) ⊎ (step ≡ Respond handle)

abbrev handle_in : CommandHandle → Step → CommandHandle
handle_in other (Perform handle) = handle
handle_in other (Respond handle) = handle
handle_in other (Done outcome) = other

handle_asked : (other : CommandHandle) (task : Task) (handle : CommandHandle) → handle_in other (asking_step task handle) ≡ handle
handle_asked other (task.Perform command) handle = refl
handle_asked other (task.Respond request) handle = refl

handle_under : (other handle : CommandHandle) (step : Step) → IsUnder handle step → handle_in other step ≡ handle
handle_under other handle step (inl is) = ap (handle_in other) is
handle_under other handle step (inr is) = ap (handle_in other) is

not_done : (handle : CommandHandle) (step : Step) (outcome : Outcome) → IsUnder handle step → step ≡ Done outcome → ⊥
not_done handle step outcome (inl is) h = cc (sym is ∙ h)
not_done handle step outcome (inr is) h = cc (sym is ∙ h)

pending_under : (handle : CommandHandle) (step : Step) (pending : PendingCommands) (tasks : List Task) → IsUnder handle step → IsAskedBy step pending tasks → ArePendingAt pending handle tasks
pending_under handle step pending tasks (inl is) asked = (subst (λ s. IsAskedBy s pending tasks) is asked).0
pending_under handle step pending tasks (inr is) asked = (subst (λ s. IsAskedBy s pending tasks) is asked).0

module _ (handed : PassThrough) (held : ResponderState (Unit {0})) where
  -- an arrival that has nothing performed leaves what a responder leaves
  stepped_done : (a : Arrival) → arrival_tasks handed held a ≡ [] → stepped handed held a ≡ arrival_held (gives (hands_on handed) unasked) held a
  stepped_done (Drop reason) none = refl
  stepped_done Part none = refl
  stepped_done (Whole m) none = ap (λ tasks. kept_by tasks m (arrival_held (gives (hands_on handed) unasked) held (Whole m)) held) none

  own_stepped : (a : Arrival) → (stepped handed held a).own ≡ held.own
  own_stepped (Drop reason) = refl
  own_stepped Part = refl
  own_stepped (Whole m) = of_tasks (arrival_tasks handed held (Whole m))
    where
      of_tasks : (tasks : List Task) → (kept_by tasks m (arrival_held (gives (hands_on handed) unasked) held (Whole m)) held).own ≡ held.own
      of_tasks [] = refl
      of_tasks (task ∷ tasks) = refl

module _ (old : EndpointView) (moment : ℕ) (bytes : List ℕ) (idle : old.pending ≡ map.empty) where
  abbrev held : ResponderState (Unit {0})
  held = held_in old

  done_by : (request : Option Message) (tasks : List Task) (outcome : Outcome) → Done outcome ≡ step_by (received_outcome (gives (hands_on old.handed_on) unasked) held moment bytes) old.count request tasks
      → outcome ≡ received_outcome (gives (hands_on old.handed_on) unasked) held moment bytes
  done_by None tasks outcome step = cc
  done_by (Some m) [] outcome step = cc
  done_by (Some m) (task.Perform command ∷ tasks) outcome step = cc
  done_by (Some m) (task.Respond request ∷ tasks) outcome step = cc

  idle_by : (request : Option Message) (tasks : List Task) → tasks ≡ [] → pending_by old.pending old.count request tasks ≡ map.empty
  idle_by None tasks none = idle
  idle_by (Some m) [] none = idle
  idle_by (Some m) (task ∷ tasks) none = cc

  -- nothing was handed out
  module _ (new : EndpointView) (outcome : Outcome) (received : HasReceived old moment bytes new (Done outcome)) where
    pub served_done : (board : BoardState) → IsServed old board moment bytes new board outcome
    served_done board =
        let same = ap (answer_given board moment) received.command in
        let left : IsHeld (held_in new) (ended_held (ended_by old.end bytes) (received_held (gives (hands_on old.handed_on) unasked) held moment bytes)) =
        subst (λ (h : ResponderState (Unit {0})). IsHeld (held_in new) (record h {
          open_messages = without (ended_by old.end bytes) (held_after old.handed_on held moment bytes).open_messages;
          last = moment;
        })) (stepped_done old.handed_on held (received_arrival held moment bytes) received.command) received.held in
        record {
          returned = done_by (request_in held moment bytes) (asked_now old.handed_on held moment bytes) outcome received.step_is
              ∙ ap (λ g. received_outcome (gives (hands_on old.handed_on) g) held moment bytes) (sym same);
          left = subst (λ g. IsHeld (held_in new) (ended_held (ended_by old.end bytes) (received_held (gives (hands_on old.handed_on) g) held moment bytes))) (sym same) left;
          board_is = sym (ap (board_served board moment) received.command);
        }

    pub idle_done : new.pending ≡ map.empty
    idle_done = received.pending ∙ idle_by (request_in held moment bytes) (asked_now old.handed_on held moment bytes) received.command

  -- the request of a handle, and what it asks
  pub record IsHandleOf (handle : CommandHandle) (pending : PendingCommands) : Type 0 where
    pub m : Message
    pub task : Task
    pub arrives : request_in held moment bytes ≡ Some m
    pub tasks : asked_now old.handed_on held moment bytes ≡ task ∷ []
    pub handle_is : handle ≡ handle_of m old.count
    pub are : pending ≡ map.insert map.empty (request_key_of m) (command_at m old.count task)
    pub ready : ArePendingAt pending handle (task ∷ [])

  handle_by : (request : Option Message) (tasks : List Task) (handle : CommandHandle) (step : Step) (pending : PendingCommands)
      → request_in held moment bytes ≡ request → asked_now old.handed_on held moment bytes ≡ tasks → IsUnder handle step
      → step ≡ step_by (received_outcome (gives (hands_on old.handed_on) unasked) held moment bytes) old.count request tasks → pending ≡ pending_by map.empty old.count request tasks
      → ArePendingAt pending handle tasks → IsHandleOf handle pending
  handle_by None tasks handle step pending r c under step_is are ready = absurd (not_done handle step _ under step_is)
  handle_by (Some m) [] handle step pending r c under step_is are ready = absurd (not_done handle step _ under step_is)
  handle_by (Some m) (task ∷ tasks) handle step pending r c under step_is are ready =
      let none : tasks ≡ [] = one_listed _ task tasks ready in
      record {
        m = m;
        task = task;
        arrives = r;
        tasks = c ∙ ap (λ ts. task ∷ ts) none;
        handle_is = sym (handle_under handle handle step under) ∙ ap (handle_in handle) step_is ∙ handle_asked handle task (handle_of m old.count);
        are = are;
        ready = subst (λ ts. ArePendingAt pending handle (task ∷ ts)) none ready;
      }

  -- something was asked
  module _ (middle : EndpointView) (handle : CommandHandle) (step : Step) (under : IsUnder handle step) (received : HasReceived old moment bytes middle step) where
    pub is : IsHandleOf handle middle.pending
    is =
        handle_by (request_in held moment bytes) (asked_now old.handed_on held moment bytes) handle step middle.pending refl refl under received.step_is
        (received.pending ∙ ap (λ pending. pending_by pending old.count (request_in held moment bytes) (asked_now old.handed_on held moment bytes)) idle)
        (pending_under handle step middle.pending (asked_now old.handed_on held moment bytes) under received.command)

    abbrev pub a : PendingCommand
    a = command_at is.m old.count is.task

    pub found : pending_at middle.pending handle ≡ Some a
    found = ap (λ x. pending_at x handle) is.are ∙ ap (pending_at (map.insert map.empty (request_key_of is.m) a)) is.handle_is ∙ just_put map.empty (request_key_of is.m) a

    pub idle_again : map.remove middle.pending (request_key handle.source handle.id) ≡ map.empty
    idle_again =
        ap (λ x. map.remove x (request_key handle.source handle.id)) is.are
        ∙ ap (λ (h : CommandHandle). map.remove (map.insert map.empty (request_key_of is.m) a) (request_key h.source h.id)) is.handle_is
        ∙ none_left (request_key_of is.m) a

    -- what is pending is what was asked
    pub task_is : task_for a ≡ is.task
    task_is = first_is (task_for a) is.task (ap (λ o. listed (option_map task_for o)) (sym found) ∙ is.ready)
      where
        first_is : (x y : Task) → x ∷ [] ≡ y ∷ [] → x ≡ y
        first_is x y h = cc

    -- the command that the endpoint returns is the one that was handed out
    pub command_handed : (command : Command) → Some command ≡ pending_command (pending_at middle.pending handle) → task.Perform command ≡ is.task
    command_handed command told = ap (λ o. task_in o a.request) (told ∙ ap pending_command found) ∙ task_is

    -- what the board gave for it
    pub served_asked : TwoStepsAreOne → (board board_left : BoardState) (new : EndpointView) (task : Task) (given : Given) (outcome : Outcome)
        → task ≡ is.task → given ≡ board_given board moment task → board_left ≡ board_asked board moment task
        → HasAnswered middle handle given new outcome → IsServed old board moment bytes new board_left outcome
    served_asked law board board_left new task given outcome told answer after answered =
        let handed = old.handed_on in
        let answer_is : given ≡ answer_given board moment (asked_now handed held moment bytes) =
        answer ∙ ap (board_given board moment) told ∙ sym (ap (answer_given board moment) is.tasks) in
        let same : held_in middle ≡ ended_held (ended_by old.end bytes) (held_after handed held moment bytes) = same_held received.held in
        let own : middle.end.own ≡ held.own = ap (λ (h : ResponderState (Unit {0})). h.own) same ∙ own_stepped handed held (received_arrival held moment bytes) in
        let one = law handed held moment bytes old.count is.m is.task given is.arrives is.tasks in
        record {
          returned =
              subst (λ n. IsAnsweredBy handed n (handle_of is.m old.count) given (Some a) outcome) own
              (subst (λ h. IsAnsweredBy handed middle.end.own h given (Some a) outcome) is.handle_is
              (subst (λ o. IsAnsweredBy handed middle.end.own handle given o outcome) found
              (subst (λ h. IsAnsweredBy h middle.end.own handle given (pending_at middle.pending handle) outcome) received.settings.handed_on answered.outcome_is)))
              ∙ one.0
              ∙ ap (λ g. received_outcome (gives (hands_on handed) g) held moment bytes) answer_is;
          left = subst (λ g. IsHeld (held_in new) (ended_held (ended_by old.end bytes) (received_held (gives (hands_on handed) g) held moment bytes))) answer_is
              (subst (λ h. IsHeld (held_in new) (ended_held (ended_by old.end bytes) h)) (same_held one.1)
              (subst (λ h. IsHeld (held_in new) (answered_held handed (ended_held (ended_by old.end bytes) (held_after handed held moment bytes)) h given (Some a))) is.handle_is
              (subst (λ (h : ResponderState (Unit {0})). IsHeld (held_in new) (answered_held handed h handle given (Some a))) same
              (subst (λ o. IsHeld (held_in new) (answered_held handed (held_in middle) handle given o)) found
              (subst (λ h. IsHeld (held_in new) (answered_held h (held_in middle) handle given (pending_at middle.pending handle))) received.settings.handed_on answered.held)))));
          board_is = after ∙ ap (board_asked board moment) told ∙ sym (ap (board_served board moment) is.tasks);
        }

  -- a request was handed on as bytes
  module _ (middle : EndpointView) (handle : CommandHandle) (received : HasReceived old moment bytes middle (Respond handle)) where
    abbrev asked : PendingCommand
    asked = a middle handle (Respond handle) (inr refl) received

    pending_is : pending_at middle.pending handle ≡ Some asked
    pending_is = found middle handle (Respond handle) (inr refl) received

    none : asked.command ≡ None
    none = subst IsHandedOn pending_is received.command.1

    -- what the board responded to it
    pub served_responded : TwoStepsAreOne → (board : BoardState) (new : EndpointView) (outcome : Outcome)
        → HasAnswered middle handle (board_response_to board (pending_at middle.pending handle)) new outcome → IsServed old board moment bytes new board outcome
    served_responded law board new outcome answered =
        served_asked middle handle (Respond handle) (inr refl) received law board board new (task.Respond (request_at asked.request)) (board_response_to board (pending_at middle.pending handle)) outcome
        (sym (ap (λ o. task_in o asked.request) none) ∙ task_is middle handle (Respond handle) (inr refl) received)
        (ap (board_response_to board) pending_is) refl answered

-- what the board responds to the request that is pending
pub response_is : (board : BoardState) (o : Option PendingCommand) (request : Request) (code : ℕ) (bytes : List ℕ) → IsHandedOn o → Some request ≡ option_map (λ (p : PendingCommand). request_at p.request) o
    → code ≡ (board_response board request).code → bytes ≡ (board_response board request).rest → response_of code bytes ≡ board_response_to board o
response_is board None request code bytes pending told code_is bytes_are = absurd pending
response_is board (Some a) request code bytes pending told code_is bytes_are =
    let same : request ≡ request_at a.request = cc in
    (λ i. response_of (code_is i) (bytes_are i)) ∙ ap (λ (r : Request). response_of (board_response board r).code (board_response board r).rest) same
