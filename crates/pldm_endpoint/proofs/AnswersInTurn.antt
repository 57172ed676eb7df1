-- An endpoint over any list of calls is a responder whose platform gives the answers that the device gave, once the
-- device has answered all that it performs; of its parts one by one.
use Rattle.std.specs.FinMap as map
use Rattle.std.proofs.Common.{◌≡◌, ℕ, ◌+◌, ◌⊎◌, inl, inr, Bool, true, false, cond, not, ◌&&◌, ◌==◌, List, [], ◌∷◌, length, Option, Some, None, IfSome, Result, Ok, Err, if◌then◌else◌, refl, sym, ap, ◌∙◌, subst, arith}
use Rattle.std.specs.Prelude.{map as list_map, option_map, take}
use Rattle.std.specs.List.{take-map}
use Rattle.std.proofs.Math.Seq.{take-nil}
use Rattle.std.proofs.lemmas.List.{map-id as list_map-id}
use Rattle.std.proofs.lemmas.Bool.{eq-eqb, eqb-false, eqb-true}
use Rattle.std.specs.Cmp.{eq_by_cmp_equiv}
use Rattle.std.specs.Ordering.{eq_by_cmp}
use Rattle.mctp_packet.specs.Passing.{passed}
use Rattle.mctp_packet.specs.Reading.{packet_of, unless}
use Rattle.mctp_packet.specs.declared.TheConstants.{NULL_EID}
use Rattle.mctp_packet.specs.declared.reason.Reason.{Reason}
use Rattle.mctp_assembly.specs.Laws as assembly
use Rattle.pldm_wire.specs.CommandReading.{command_of}
use Rattle.pldm_wire.specs.HandingOn.{hands_on, none_handed_on}
use Rattle.pldm_wire.specs.Headers.{id_at}
use Rattle.pldm_wire.specs.Requests.{Request, request_of}
use Rattle.pldm_wire.specs.declared.restart_policy.RestartPolicy.{RestartPolicy}
use Rattle.pldm_wire.specs.declared.restart_policy.RestartPolicy.TheVariants.{All}
use Rattle.pldm_wire.specs.declared.command.Command.{Command}
use Rattle.pldm_wire.specs.declared.pass_through.PassThrough.{PassThrough}
use Rattle.pldm_responder.specs.Arrivals.{Arrival, Drop, Part, Whole, is_expected, packets_back, passed_arrival, request_packet}
use Rattle.pldm_responder.specs.Asked.{Given, IsAsGiven, IsGivenBy, gives, over}
use Rattle.pldm_responder.specs.Calls.{Call, Received, Sensed, Restart, Updated, Ended, Assigned, events, fed, looked_back, outcome, with_arrival}
use Rattle.pldm_responder.specs.Events.{Event, Message, Place, Restarted, recent}
use Rattle.pldm_responder.specs.OutsideAnswers.{message_in, outcome_of_answer}
use Rattle.pldm_responder.specs.ResponderStates.{Entry, ResponderState, IsHeld, held_at_first, id_in}
use Rattle.pldm_responder.specs.Laws.{IsLeftBy, entry_at}
use Rattle.pldm_responder.specs.Performing.{Perform, Respond, Rules, Task, after_command, busy_reply, next_after, reply, tasks_at, tasks_in, tasks_of}
use Rattle.pldm_responder.specs.Recency.{of_number, renewed, replaced, without}
use Rattle.pldm_responder.specs.Steps.{assigned_held, arrival_asks, arrival_held, arrival_outcome, copied_packets, entry_for, entry_of, performs, received_arrival, received_held, received_outcome, received_tasks, refuses_now, repeats, restarted_held, served}
use Rattle.pldm_responder.specs.declared.outcome.Outcome.TheVariants.{Answered}
use Rattle.pldm_responder.proofs.AnswersFromOutside.{answer_decides, none_is_asked}
use Rattle.pldm_responder.proofs.CallsLookBack.{assigned_looks_back, ended_looks_back, new_looks_back, received_looks_back, restarted_looks_back, same_is_left}
use Rattle.pldm_responder.proofs.KeptEntries.{found_holds}
use Rattle.pldm_responder.proofs.RecentFirst.{by_test, dropped, found_in_map, renewed_in_map, stays, without_in_map}
use Rattle.pldm_responder.proofs.ServedRequests.{performed_outcome}
use Rattle.pldm_responder.proofs.WithoutEid.{drops_without_eid}
use Rattle.pldm_endpoint.specs.RequestKeys.{PendingCommands, request_key, request_key_cmp, request_key_of}
use Rattle.pldm_endpoint.specs.Histories.{AreUnderTheirIds, TwoStepsAreOne, entry_once_given, in_turn}
use Rattle.pldm_endpoint.specs.TwoSteps.{arrival_tasks, asked_now, command_at, count_after, entry_given, held_after, kept_by, pending_after, pending_by, request_in, stepped, unasked, waiting, with_waiting}
use Rattle.pldm_endpoint.specs.declared.pending_commands.PendingCommand.{PendingCommand}
use Rattle.pldm_endpoint.specs.declared.pending_commands.RequestKey.{RequestKey}
use Rattle.pldm_endpoint.proofs.ByParts.{AnsweredByParts, AskedLooksBack, AssignedByParts, EndedByParts, IsFree, IsLeftByParts, NewByParts, ReceivedByParts, RestartedByParts, SameByParts, UnaskedLooksBack, to_be}
use Rattle.pldm_endpoint.proofs.KeyOrder.{request_keys_total}
use Rattle.pldm_endpoint.proofs.PendingGlue.{numbered_is, one_key, whole_is}

-- ---- each thing that is asked is counted
by_command : (handed : PassThrough) (answers : ℕ → Given) (count : ℕ) (r : Result Command ℕ) → after_command (in_turn handed answers) count r ≡ count + length (tasks_in r)
by_command handed answers count (Ok command) = omega arith
by_command handed answers count (Err code) = omega arith

by_handing : (handed : PassThrough) (answers : ℕ → Given) (count : ℕ) (t : Bool) (request : Request) (r : Result Command ℕ)
    → (if t then count + 1 else after_command (in_turn handed answers) count r) ≡ count + length (if t then Respond request ∷ [] else tasks_in r)
by_handing handed answers count true request r = omega arith
by_handing handed answers count false request r = by_command handed answers count r

by_request : (handed : PassThrough) (answers : ℕ → Given) (count : ℕ) (q : Result Request Reason) → next_after (in_turn handed answers) count q ≡ count + length (tasks_at (hands_on handed) q)
by_request handed answers count (Ok request) = by_handing handed answers count (hands_on handed request.kind) request (command_of request.kind request.rest)
by_request handed answers count (Err reason) = omega arith

pub by_performing : (handed : PassThrough) (answers : ℕ → Given) (t : Bool) (count : ℕ) (q : Result Request Reason)
    → (if t then next_after (in_turn handed answers) count q else count) ≡ count + length (if t then tasks_at (hands_on handed) q else [])
by_performing handed answers true count q = by_request handed answers count q
by_performing handed answers false count q = omega arith

by_arrival : (handed : PassThrough) (answers : ℕ → Given) (held : ResponderState ℕ) (a : Arrival) → (arrival_held (in_turn handed answers) held a).state ≡ held.state + length (arrival_asks held (tasks_of (hands_on handed)) a)
by_arrival handed answers held (Drop reason) = omega arith
by_arrival handed answers held Part = omega arith
by_arrival handed answers held (Whole m) = by_performing handed answers (performs held m) held.state (request_of m.bytes)

-- ---- keys that are not one
not_one : (a b : RequestKey) → (a ≡ b → ⊥) → eq_by_cmp request_key_cmp a b ≡ false
not_one a b apart = by (eq_by_cmp request_key_cmp a b) refl
  where
    by : (t : Bool) → eq_by_cmp request_key_cmp a b ≡ t → t ≡ false
    by true is = absurd (apart (one_key a b is))
    by false is = refl

-- ---- what is kept, once the device has answered
number_by : (handed : PassThrough) (answers : ℕ → Given) (o : Option PendingCommand) (e : Entry) → IfSome o (λ a. id_at a.request ≡ id_in e) → id_in (entry_once_given handed answers o e) ≡ id_in e
number_by handed answers None e is = refl
number_by handed answers (Some a) e is = is

same_lists : {A B : Type 0} (f g : A → B) (xs : List A) → ((x : A) → f x ≡ g x) → list_map f xs ≡ list_map g xs
same_lists f g xs same = λ i. list_map (λ x. same x i) xs

map_map : {A B C : Type 0} (f : B → C) (g : A → B) (xs : List A) → list_map f (list_map g xs) ≡ list_map (λ x. f (g x)) xs
map_map f g [] = refl
map_map f g (x ∷ xs) = ap (λ ys. f (g x) ∷ ys) (map_map f g xs)

-- a change of those of one number alone is none of the others
map_without : {B : Type 0} (f g : Entry → B) (n : ℕ) (xs : List Entry) → ((x : Entry) → (id_in x ≡ n → ⊥) → f x ≡ g x) → list_map f (without id_in n xs) ≡ list_map g (without id_in n xs)
map_without f g n [] same = refl
map_without f g n (x ∷ xs) same =
    by_test (id_in x == n)
    (λ (gone : (id_in x == n) ≡ true). ap (list_map f) (dropped id_in n x xs gone) ∙ map_without f g n xs same ∙ sym (ap (list_map g) (dropped id_in n x xs gone)))
    (λ (other : (id_in x == n) ≡ false).
    ap (list_map f) (stays id_in n x xs other)
    ∙ (λ i. same x (eqb-false (id_in x) n other) i ∷ map_without f g n xs same i)
    ∙ sym (ap (list_map g) (stays id_in n x xs other)))

-- ---- what is held once all is answered has the same entry where a request comes
module _ (handed : PassThrough) (answers : ℕ → Given) (count : ℕ) (pending : PendingCommands) (held : ResponderState (Unit {0})) (ids : AreUnderTheirIds pending) where
  abbrev later : ResponderState (Unit {0})
  later = to_be handed answers pending held

  abbrev pub comes : ℕ → Entry → Entry
  comes source e = entry_once_given handed answers (map.get pending (request_key source (id_in e))) e

  comes_alike : (source : ℕ) (e : Entry) → id_in (comes source e) ≡ id_in e
  comes_alike source e = number_by handed answers (map.get pending (request_key source (id_in e))) e (ids source (id_in e))

  pub found_later : (source id : ℕ) → of_number id_in id (later.kept source) ≡ option_map (comes source) (of_number id_in id (held.kept source))
  found_later source id = found_in_map id_in id_in (comes source) (comes_alike source) id (held.kept source)

  free_stays : (source id : ℕ) (o : Option Entry) → map.get pending (request_key source id) ≡ None → IfSome o (λ e. Unit {0} × (id_in e ≡ id)) → option_map (comes source) o ≡ o
  free_stays source id None free is = refl
  free_stays source id (Some e) free is =
      ap (λ n. Some (entry_once_given handed answers (map.get pending (request_key source n)) e)) is.1 ∙ ap (λ o. Some (entry_once_given handed answers o e)) free

  same_entry : (m : Message) → map.get pending (request_key_of m) ≡ None → entry_for later m ≡ entry_for held m
  same_entry m free =
      found_later m.source (id_at m.bytes)
      ∙ free_stays m.source (id_at m.bytes) (entry_for held m) free (found_holds (λ _. Unit {0}) (id_at m.bytes) (held.kept m.source) (λ k d below. tt))

  same_performs : (m : Message) → map.get pending (request_key_of m) ≡ None → performs later m ≡ performs held m
  same_performs m free = ap (λ e. not (refuses_now held m) && not (repeats held.keep m e)) (same_entry m free)

  pub same_commands : (a : Arrival) → IsFree pending (message_in a) → arrival_tasks handed later a ≡ arrival_tasks handed held a
  same_commands (Drop reason) free = refl
  same_commands Part free = refl
  same_commands (Whole m) free = ap (λ t. if t then tasks_of (hands_on handed) m.bytes else []) (same_performs m free)

  same_outcome : (device : Rules (Unit {0})) (a : Arrival) → IsFree pending (message_in a) → arrival_outcome device later a ≡ arrival_outcome device held a
  same_outcome device (Drop reason) free = refl
  same_outcome device Part free = refl
  same_outcome device (Whole m) free =
      ap (λ e. if refuses_now held m then Answered false false (packets_back held.own m (busy_reply m.bytes))
      else served device held m (copied_packets held.own held.keep m e)) (same_entry m free)

  -- ---- what is kept
  -- one that nothing is pending for is put in front
  in_front_later : (source : ℕ) (x : Entry) → comes source x ≡ x → list_map (comes source) (take held.window (renewed id_in x (held.kept source))) ≡ take held.window (renewed id_in x (later.kept source))
  in_front_later source x same =
      sym (take-map (comes source) held.window (renewed id_in x (held.kept source)))
      ∙ ap (take held.window) (sym (renewed_in_map id_in id_in (comes source) (comes_alike source) x (held.kept source)))
      ∙ ap (λ y. take held.window (renewed id_in y (later.kept source))) same

  kept_where_none : (m : Message) (source : ℕ) (p of : Bool) → (m.source == source) ≡ of → map.get pending (request_key_of m) ≡ None
      → list_map (comes source) (if of && p then take held.window (renewed id_in (entry_of (gives (hands_on handed) unasked) held m) (held.kept source)) else held.kept source)
      ≡ (if of && p then take held.window (renewed id_in (entry_of (gives (hands_on handed) unasked) later m) (later.kept source)) else later.kept source)
  kept_where_none m source p false is free = refl
  kept_where_none m source false true is free = refl
  kept_where_none m source true true is free =
      in_front_later source (entry_of (gives (hands_on handed) unasked) held m)
      (ap (λ o. entry_once_given handed answers o (entry_of (gives (hands_on handed) unasked) held m)) (ap (λ s. map.get pending (request_key s (id_at m.bytes))) (sym (eqb-true m.source source is)) ∙ free))

  kept_none : (a : Arrival) → IsFree pending (message_in a) → (source : ℕ)
      → list_map (comes source) ((arrival_held (gives (hands_on handed) unasked) held a).kept source) ≡ (arrival_held (gives (hands_on handed) unasked) later a).kept source
  kept_none (Drop reason) free source = refl
  kept_none Part free source = refl
  kept_none (Whole m) free source =
      kept_where_none m source (performs held m) (m.source == source) refl free
      ∙ ap (λ p. if m.source == source && p then take held.window (renewed id_in (entry_of (gives (hands_on handed) unasked) later m) (later.kept source)) else later.kept source) (sym (same_performs m free))

  -- one that is asked for now
  abbrev now_asked : Message → Task → PendingCommand
  now_asked m task = command_at m count task

  abbrev with_it : Message → Task → PendingCommands
  with_it m task = map.insert pending (request_key_of m) (now_asked m task)

  abbrev comes_with : Message → Task → ℕ → Entry → Entry
  comes_with m task source e = entry_once_given handed answers (map.get (with_it m task) (request_key source (id_in e))) e

  inserted_here : (m : Message) (task : Task) → map.get (with_it m task) (request_key_of m) ≡ Some (now_asked m task)
  inserted_here m task =
      map.get-insert request_keys_total pending (request_key_of m) (now_asked m task) (request_key_of m)
      ∙ ap (λ t. cond t (Some (now_asked m task)) (map.get pending (request_key_of m))) ((eq_by_cmp_equiv request_keys_total).refl (request_key_of m))

  inserted_there : (m : Message) (task : Task) (key : RequestKey) → (key ≡ request_key_of m → ⊥) → map.get (with_it m task) key ≡ map.get pending key
  inserted_there m task key apart =
      map.get-insert request_keys_total pending (request_key_of m) (now_asked m task) key
      ∙ ap (λ t. cond t (Some (now_asked m task)) (map.get pending key)) (not_one key (request_key_of m) apart)

  pub ids_with : (m : Message) (task : Task) → AreUnderTheirIds (with_it m task)
  ids_with m task source id =
      subst (λ o. IfSome o (λ a. id_at a.request ≡ id)) (sym (map.get-insert request_keys_total pending (request_key_of m) (now_asked m task) (request_key source id)))
      (by_key (eq_by_cmp request_key_cmp (request_key source id) (request_key_of m)) refl)
    where
      by_key : (t : Bool) → eq_by_cmp request_key_cmp (request_key source id) (request_key_of m) ≡ t → IfSome (cond t (Some (now_asked m task)) (map.get pending (request_key source id))) (λ a. id_at a.request ≡ id)
      by_key true is = sym (ap (λ (k : RequestKey). k.id) (one_key (request_key source id) (request_key_of m) is))
      by_key false is = ids source id

  kept_where_asked : (m : Message) (task : Task) (source : ℕ) (of : Bool) → (m.source == source) ≡ of
      → list_map (comes_with m task source) (if of then take held.window (renewed id_in (waiting m) (held.kept source)) else held.kept source)
      ≡ (if of then take held.window (renewed id_in (entry_of (gives (hands_on handed) (answers count)) later m) (later.kept source)) else later.kept source)
  kept_where_asked m task source false is =
      same_lists (comes_with m task source) (comes source) (held.kept source)
      (λ e. ap (λ o. entry_once_given handed answers o e) (inserted_there m task (request_key source (id_in e)) (λ same. absurd (eqb-false m.source source is (sym (ap (λ (k : RequestKey). k.source) same))))))
  kept_where_asked m task source true is =
      let n = id_at m.bytes in
      let here : comes_with m task source (waiting m) ≡ entry_of (gives (hands_on handed) (answers count)) later m =
      ap (λ o. entry_once_given handed answers o (waiting m)) (ap (λ s. map.get (with_it m task) (request_key s n)) (sym (eqb-true m.source source is)) ∙ inserted_here m task) in
      let others : list_map (comes_with m task source) (without id_in n (held.kept source)) ≡ without id_in n (later.kept source) =
      map_without (comes_with m task source) (comes source) n (held.kept source)
      (λ e apart. ap (λ o. entry_once_given handed answers o e) (inserted_there m task (request_key source (id_in e)) (λ same. apart (ap (λ (k : RequestKey). k.id) same))))
      ∙ sym (without_in_map id_in id_in (comes source) (comes_alike source) n (held.kept source)) in
      sym (take-map (comes_with m task source) held.window (renewed id_in (waiting m) (held.kept source)))
      ∙ ap (take held.window) (λ i. here i ∷ others i)

  performed_by : (t : Bool) (tasks : List Task) (task : Task) → (if t then tasks else []) ≡ task ∷ [] → t ≡ true
  performed_by true tasks task h = refl
  performed_by false tasks task h = cc

  where_done : {A : Type 0} (of p : Bool) (x y : A) → p ≡ true → (if of then x else y) ≡ (if of && p then x else y)
  where_done true true x y h = refl
  where_done false p x y h = refl
  where_done true false x y h = cc

  kept_asked : (m : Message) (task : Task) → map.get pending (request_key_of m) ≡ None → arrival_tasks handed held (Whole m) ≡ task ∷ [] → (source : ℕ)
      → list_map (comes_with m task source) ((with_waiting held m).kept source) ≡ (arrival_held (gives (hands_on handed) (answers count)) later (Whole m)).kept source
  kept_asked m task free asked source =
      let done : performs held m ≡ true = performed_by (performs held m) (tasks_of (hands_on handed) m.bytes) task asked in
      kept_where_asked m task source (m.source == source) refl
      ∙ where_done (m.source == source) (performs later m) _ _ (same_performs m free ∙ done)

  -- ---- an arrival asks at most one thing
  one_in : (r : Result Command ℕ) → (tasks_in r ≡ []) ⊎ ((task : Task) × (tasks_in r ≡ task ∷ []))
  one_in (Ok command) = inr (Perform command, refl)
  one_in (Err code) = inl refl

  one_by : (t : Bool) (request : Request) (r : Result Command ℕ) → ((if t then Respond request ∷ [] else tasks_in r) ≡ []) ⊎ ((task : Task) × ((if t then Respond request ∷ [] else tasks_in r) ≡ task ∷ []))
  one_by true request r = inr (Respond request, refl)
  one_by false request r = one_in r

  one_at : (q : Result Request Reason) → (tasks_at (hands_on handed) q ≡ []) ⊎ ((task : Task) × (tasks_at (hands_on handed) q ≡ task ∷ []))
  one_at (Ok request) = one_by (hands_on handed request.kind) request (command_of request.kind request.rest)
  one_at (Err reason) = inl refl

  one_where : (t : Bool) (q : Result Request Reason) → ((if t then tasks_at (hands_on handed) q else []) ≡ []) ⊎ ((task : Task) × ((if t then tasks_at (hands_on handed) q else []) ≡ task ∷ []))
  one_where true q = one_at q
  one_where false q = inl refl

  pub one_asked : (a : Arrival) → (arrival_tasks handed held a ≡ []) ⊎ ((task : Task) × (arrival_tasks handed held a ≡ task ∷ []))
  one_asked (Drop reason) = inl refl
  one_asked Part = inl refl
  one_asked (Whole m) = one_where (performs held m) (request_of m.bytes)

  pub message_of_asked : (a : Arrival) (task : Task) → arrival_tasks handed held a ≡ task ∷ [] → (m : Message) × (a ≡ Whole m)
  message_of_asked (Drop reason) task h = cc
  message_of_asked Part task h = cc
  message_of_asked (Whole m) task h = (m, refl)

performed_where : (t : Bool) (tasks : List Task) (task : Task) → (if t then tasks else []) ≡ task ∷ [] → t ≡ true
performed_where true tasks task h = refl
performed_where false tasks task h = cc

-- ---- what an arrival does not change
module _ {S : Type 0} (device : Rules S) (held : ResponderState S) where
  own_is : (a : Arrival) → (arrival_held device held a).own ≡ held.own
  own_is (Drop reason) = refl
  own_is Part = refl
  own_is (Whole m) = refl

  busy_is : (a : Arrival) → (arrival_held device held a).busy ≡ held.busy
  busy_is (Drop reason) = refl
  busy_is Part = refl
  busy_is (Whole m) = refl

  window_is : (a : Arrival) → (arrival_held device held a).window ≡ held.window
  window_is (Drop reason) = refl
  window_is Part = refl
  window_is (Whole m) = refl

  keep_is : (a : Arrival) → (arrival_held device held a).keep ≡ held.keep
  keep_is (Drop reason) = refl
  keep_is Part = refl
  keep_is (Whole m) = refl

  from_is : (a : Arrival) → (arrival_held device held a).serves_from ≡ held.serves_from
  from_is (Drop reason) = refl
  from_is Part = refl
  from_is (Whole m) = refl

-- what is held after an arrival differs only by what is kept
module _ (handed : PassThrough) (held : ResponderState (Unit {0})) where
  own_stepped : (a : Arrival) → (stepped handed held a).own ≡ held.own
  own_stepped (Drop reason) = refl
  own_stepped Part = refl
  own_stepped (Whole m) = by (arrival_tasks handed held (Whole m))
    where
      by : (tasks : List Task) → (kept_by tasks m (arrival_held (gives (hands_on handed) unasked) held (Whole m)) held).own ≡ held.own
      by [] = refl
      by (task ∷ tasks) = refl

  busy_stepped : (a : Arrival) → (stepped handed held a).busy ≡ held.busy
  busy_stepped (Drop reason) = refl
  busy_stepped Part = refl
  busy_stepped (Whole m) = by (arrival_tasks handed held (Whole m))
    where
      by : (tasks : List Task) → (kept_by tasks m (arrival_held (gives (hands_on handed) unasked) held (Whole m)) held).busy ≡ held.busy
      by [] = refl
      by (task ∷ tasks) = refl

  window_stepped : (a : Arrival) → (stepped handed held a).window ≡ held.window
  window_stepped (Drop reason) = refl
  window_stepped Part = refl
  window_stepped (Whole m) = by (arrival_tasks handed held (Whole m))
    where
      by : (tasks : List Task) → (kept_by tasks m (arrival_held (gives (hands_on handed) unasked) held (Whole m)) held).window ≡ held.window
      by [] = refl
      by (task ∷ tasks) = refl

  keep_stepped : (a : Arrival) → (stepped handed held a).keep ≡ held.keep
  keep_stepped (Drop reason) = refl
  keep_stepped Part = refl
  keep_stepped (Whole m) = by (arrival_tasks handed held (Whole m))
    where
      by : (tasks : List Task) → (kept_by tasks m (arrival_held (gives (hands_on handed) unasked) held (Whole m)) held).keep ≡ held.keep
      by [] = refl
      by (task ∷ tasks) = refl

  from_stepped : (a : Arrival) → (stepped handed held a).serves_from ≡ held.serves_from
  from_stepped (Drop reason) = refl
  from_stepped Part = refl
  from_stepped (Whole m) = by (arrival_tasks handed held (Whole m))
    where
      by : (tasks : List Task) → (kept_by tasks m (arrival_held (gives (hands_on handed) unasked) held (Whole m)) held).serves_from ≡ held.serves_from
      by [] = refl
      by (task ∷ tasks) = refl

  -- and that by what it asks
  kept_stepped : (a : Arrival) → arrival_tasks handed held a ≡ [] → (source : ℕ) → (stepped handed held a).kept source ≡ (arrival_held (gives (hands_on handed) unasked) held a).kept source
  kept_stepped (Drop reason) none source = refl
  kept_stepped Part none source = refl
  kept_stepped (Whole m) none source = ap (λ tasks. (kept_by tasks m (arrival_held (gives (hands_on handed) unasked) held (Whole m)) held).kept source) none

  waits_stepped : (m : Message) (task : Task) → arrival_tasks handed held (Whole m) ≡ task ∷ [] → (source : ℕ) → (stepped handed held (Whole m)).kept source ≡ (with_waiting held m).kept source
  waits_stepped m task asked source = ap (λ tasks. (kept_by tasks m (arrival_held (gives (hands_on handed) unasked) held (Whole m)) held).kept source) asked

pending_where_none : (pending : PendingCommands) (count : ℕ) (request : Option Message) (tasks : List Task) → tasks ≡ [] → pending_by pending count request tasks ≡ pending
pending_where_none pending count None tasks is = refl
pending_where_none pending count (Some m) tasks is = ap (pending_by pending count (Some m)) is

-- ---- both steps at once
-- what waits is answered in its place
answered_by : (m : Message) (window : ℕ) (kept : List Entry) (answer : List ℕ) → replaced id_in (record { moment = m.moment; bytes = m.bytes; answer = answer }) (take window (renewed id_in (waiting m) kept))
    ≡ take window (renewed id_in (record { moment = m.moment; bytes = m.bytes; answer = answer }) kept)
answered_by m window kept answer =
    let n = id_at m.bytes in
    let x : Entry = record { moment = m.moment; bytes = m.bytes; answer = answer } in
    let f : Entry → Entry = λ y. if id_in y == n then x else y in
    let here : f (waiting m) ≡ x = ap (λ t. if t then x else waiting m) (eq-eqb n n refl) in
    let others : list_map f (without id_in n kept) ≡ without id_in n kept =
    map_without f (λ y. y) n kept (λ y apart. ap (λ t. if t then x else y) (not_same (id_in y) n apart)) ∙ map_id (without id_in n kept) in
    sym (take-map f window (renewed id_in (waiting m) kept)) ∙ ap (take window) (λ i. here i ∷ others i)
  where
    map_id : {A : Type 0} (xs : List A) → list_map (λ y. y) xs ≡ xs
    map_id xs = list_map-id xs

    not_same : (a b : ℕ) → (a ≡ b → ⊥) → (a == b) ≡ false
    not_same a b apart = by (a == b) refl
      where
        by : (t : Bool) → (a == b) ≡ t → t ≡ false
        by true is = absurd (apart (eqb-true a b is))
        by false is = refl

pub two_steps_are_one : TwoStepsAreOne
two_steps_are_one handed held moment bytes count m task given arrives asked =
    let a = received_arrival held moment bytes in
    let is : a ≡ Whole m = whole_is a m arrives in
    let asks = ap (arrival_tasks handed held) (sym is) ∙ asked in
    let done = performed_where (performs held m) (tasks_of (hands_on handed) m.bytes) task asks in (
      sym (performed_outcome (gives (hands_on handed) given) held m done) ∙ ap (arrival_outcome (gives (hands_on handed) given) held) (sym is),
      record {
        own = own_stepped handed held a ∙ sym (own_is (gives (hands_on handed) given) held a);
        busy = busy_stepped handed held a ∙ sym (busy_is (gives (hands_on handed) given) held a);
        window = window_stepped handed held a ∙ sym (window_is (gives (hands_on handed) given) held a);
        keep = keep_stepped handed held a ∙ sym (keep_is (gives (hands_on handed) given) held a);
        open_messages = refl;
        kept = λ source.
            ap (λ x. if m.source == source then replaced id_in (entry_given handed (command_at m count task) given) ((stepped handed held x).kept source) else (stepped handed held x).kept source) is
            ∙ ap (λ (kept : List Entry). if m.source == source then replaced id_in (entry_given handed (command_at m count task) given) kept else kept) (waits_stepped handed held m task asks source)
            ∙ in_place source (m.source == source)
            ∙ where_it_is (m.source == source) (performs held m) _ _ done
            ∙ ap (λ x. (arrival_held (gives (hands_on handed) given) held x).kept source) (sym is);
        state = refl;
        serves_from = from_stepped handed held a ∙ sym (from_is (gives (hands_on handed) given) held a);
        last = refl;
      },
    )
  where
    where_it_is : {A : Type 0} (of p : Bool) (x y : A) → p ≡ true → (if of then x else y) ≡ (if of && p then x else y)
    where_it_is true true x y h = refl
    where_it_is false p x y h = refl
    where_it_is true false x y h = cc

    in_place : (source : ℕ) (t : Bool)
        → (if t then replaced id_in (entry_given handed (command_at m count task) given) (if t then take held.window (renewed id_in (waiting m) (held.kept source)) else held.kept source) else (if t then take held.window (renewed id_in (waiting m) (held.kept source)) else held.kept source))
        ≡ (if t then take held.window (renewed id_in (entry_given handed (command_at m count task) given) (held.kept source)) else held.kept source)
    in_place source true = answered_by m held.window (held.kept source) (reply (gives (hands_on handed) given) tt m.bytes)
    in_place source false = refl

-- ---- the laws
module _ (own : ℕ) (handed : PassThrough) (busy : RestartPolicy) (window keep : ℕ) (answers : ℕ → Given) (count : ℕ) (pending : PendingCommands) (held : ResponderState (Unit {0})) (calls : List (Call ℕ)) (moment : ℕ) (bytes : List ℕ)
    (looks : assembly.FeedLooksBack) (left : IsLeftByParts own handed busy window keep answers count pending held calls) (free : IsFree pending (request_in held moment bytes)) where
  abbrev full : ResponderState ℕ
  full = over count (to_be handed answers pending held)

  abbrev a : Arrival
  a = received_arrival held moment bytes

  step : (received_outcome (in_turn handed answers) full moment bytes ≡ outcome (in_turn handed answers) own busy window keep 0 calls moment bytes)
      × IsLeftBy (in_turn handed answers) own busy window keep 0 (received_held (in_turn handed answers) full moment bytes) (Received moment bytes ∷ calls)
  step = received_looks_back (in_turn handed answers) looks own busy window keep 0 full calls moment bytes left.left

  full_commands : received_tasks full (hands_on handed) moment bytes ≡ asked_now handed held moment bytes
  full_commands = same_commands handed answers count pending held left.ids a free

  given_none : asked_now handed held moment bytes ≡ [] → IsAsGiven (in_turn handed answers) full moment bytes unasked
  given_none none = none_is_asked (in_turn handed answers) full moment bytes unasked (full_commands ∙ none)

  gives_it : (task : Task) → IsGivenBy (in_turn handed answers) count task (answers count)
  gives_it (Perform command) = refl
  gives_it (Respond request) = refl

  given_asked : (task : Task) → asked_now handed held moment bytes ≡ task ∷ [] → IsAsGiven (in_turn handed answers) full moment bytes (answers count)
  given_asked task asked = (answer_decides (in_turn handed answers) full moment bytes task (answers count) (full_commands ∙ asked) (gives_it task)).0

  left_same : (given : Given) → IsAsGiven (in_turn handed answers) full moment bytes given → AreUnderTheirIds (pending_after handed held moment bytes pending count)
      → ((source : ℕ) → (to_be handed answers (pending_after handed held moment bytes pending count) (stepped handed held a)).kept source ≡ (received_held (gives (hands_on handed) given) (to_be handed answers pending held) moment bytes).kept source)
      → IsLeftByParts own handed busy window keep answers (count_after handed held moment bytes count) (pending_after handed held moment bytes pending count) (held_after handed held moment bytes) (Received moment bytes ∷ calls)
  left_same given as_given ids kept = record {
    ids = ids;
    left = same_is_left (in_turn handed answers) own busy window keep 0 _ _ (Received moment bytes ∷ calls) (record {
      own = own_stepped handed held a ∙ sym (own_is (gives (hands_on handed) given) (to_be handed answers pending held) a) ∙ sym as_given.left.own;
      busy = busy_stepped handed held a ∙ sym (busy_is (gives (hands_on handed) given) (to_be handed answers pending held) a) ∙ sym as_given.left.busy;
      window = window_stepped handed held a ∙ sym (window_is (gives (hands_on handed) given) (to_be handed answers pending held) a) ∙ sym as_given.left.window;
      keep = keep_stepped handed held a ∙ sym (keep_is (gives (hands_on handed) given) (to_be handed answers pending held) a) ∙ sym as_given.left.keep;
      open_messages = sym as_given.left.open_messages;
      kept = λ source. kept source ∙ sym (as_given.left.kept source);
      state = sym (by_arrival handed answers full a ∙ ap (λ tasks. count + length tasks) full_commands);
      serves_from = from_stepped handed held a ∙ sym (from_is (gives (hands_on handed) given) (to_be handed answers pending held) a) ∙ sym as_given.left.serves_from;
      last = sym as_given.left.last;
    }) step.1;
  }

  left_none : asked_now handed held moment bytes ≡ []
      → IsLeftByParts own handed busy window keep answers (count_after handed held moment bytes count) (pending_after handed held moment bytes pending count) (held_after handed held moment bytes) (Received moment bytes ∷ calls)
  left_none none =
      let same : pending_after handed held moment bytes pending count ≡ pending = pending_where_none pending count (message_in a) (arrival_tasks handed held a) none in
      left_same unasked (given_none none) (subst AreUnderTheirIds (sym same) left.ids)
      (λ source.
      ap (λ p. (to_be handed answers p (stepped handed held a)).kept source) same
      ∙ ap (list_map (comes handed answers count pending held left.ids source)) (kept_stepped handed held a none source)
      ∙ kept_none handed answers count pending held left.ids a free source)

  left_asked : (m : Message) (task : Task) → a ≡ Whole m → asked_now handed held moment bytes ≡ task ∷ []
      → IsLeftByParts own handed busy window keep answers (count_after handed held moment bytes count) (pending_after handed held moment bytes pending count) (held_after handed held moment bytes) (Received moment bytes ∷ calls)
  left_asked m task is asked =
      let asks = ap (arrival_tasks handed held) (sym is) ∙ asked in
      let more : pending_after handed held moment bytes pending count ≡ with_it handed answers count pending held left.ids m task =
      ap (pending_by pending count (message_in a)) asked ∙ ap (λ x. pending_by pending count (message_in x) (task ∷ [])) is in
      left_same (answers count) (given_asked task asked) (subst AreUnderTheirIds (sym more) (ids_with handed answers count pending held left.ids m task))
      (λ source.
      ap (λ p. (to_be handed answers p (stepped handed held a)).kept source) more
      ∙ ap (λ x. list_map (comes_with handed answers count pending held left.ids m task source) ((stepped handed held x).kept source)) is
      ∙ ap (list_map (comes_with handed answers count pending held left.ids m task source)) (waits_stepped handed held m task asks source)
      ∙ kept_asked handed answers count pending held left.ids m task (subst (λ x. IsFree pending (message_in x)) is free) asks source
      ∙ ap (λ x. (arrival_held (gives (hands_on handed) (answers count)) (to_be handed answers pending held) x).kept source) (sym is))

  pub received : IsLeftByParts own handed busy window keep answers (count_after handed held moment bytes count) (pending_after handed held moment bytes pending count) (held_after handed held moment bytes) (Received moment bytes ∷ calls)
  received = by_commands (one_asked handed answers count pending held left.ids a)
    where
      by_commands : (asked_now handed held moment bytes ≡ []) ⊎ ((task : Task) × (asked_now handed held moment bytes ≡ task ∷ []))
          → IsLeftByParts own handed busy window keep answers (count_after handed held moment bytes count) (pending_after handed held moment bytes pending count) (held_after handed held moment bytes) (Received moment bytes ∷ calls)
      by_commands (inl none) = left_none none
      by_commands (inr one) =
          let whole = message_of_asked handed answers count pending held left.ids a one.0 one.1 in
          left_asked whole.0 one.0 whole.1 one.1

  pub unasked_outcome : asked_now handed held moment bytes ≡ [] → received_outcome (gives (hands_on handed) unasked) held moment bytes ≡ outcome (in_turn handed answers) own busy window keep 0 calls moment bytes
  unasked_outcome none =
      sym (same_outcome handed answers count pending held left.ids (gives (hands_on handed) unasked) a free) ∙ sym (given_none none).outcome ∙ step.0

  pub asked_outcome : (m : Message) (task : Task) → request_in held moment bytes ≡ Some m → asked_now handed held moment bytes ≡ task ∷ []
      → outcome_of_answer (hands_on handed) held.own m.source m.tag m.bytes (answers count) ≡ outcome (in_turn handed answers) own busy window keep 0 calls moment bytes
  asked_outcome m task arrives asked =
      let is = whole_is a m arrives in
      let done = performed_where (performs held m) (tasks_of (hands_on handed) m.bytes) task (ap (arrival_tasks handed held) (sym is) ∙ asked) in
      sym (performed_outcome (gives (hands_on handed) (answers count)) held m done)
      ∙ ap (arrival_outcome (gives (hands_on handed) (answers count)) held) (sym is)
      ∙ sym (same_outcome handed answers count pending held left.ids (gives (hands_on handed) (answers count)) a free) ∙ sym (given_asked task asked).outcome ∙ step.0

pub received_in_turn : assembly.FeedLooksBack → ReceivedByParts
received_in_turn looks own handed busy window keep answers count pending held calls moment bytes left free = received own handed busy window keep answers count pending held calls moment bytes looks left free

pub unasked_looks_back : assembly.FeedLooksBack → UnaskedLooksBack
unasked_looks_back looks own handed busy window keep answers count pending held calls moment bytes left free none = unasked_outcome own handed busy window keep answers count pending held calls moment bytes looks left free none

pub asked_looks_back : assembly.FeedLooksBack → AskedLooksBack
asked_looks_back looks own handed busy window keep answers count pending held calls moment bytes m task left free arrives asked = asked_outcome own handed busy window keep answers count pending held calls moment bytes looks left free m task arrives asked

-- ---- an answer
module _ (handed : PassThrough) (answers : ℕ → Given) (pending : PendingCommands) (held : ResponderState (Unit {0})) (ids : AreUnderTheirIds pending) (source id number : ℕ) (a : PendingCommand)
    (is : map.get pending (request_key source id) ≡ Some a) (number_is : a.number ≡ number) where
  abbrev without_it : PendingCommands
  without_it = map.remove pending (request_key source id)

  abbrev given_entry : Entry
  given_entry = entry_given handed a (answers number)

  id_is : id_at a.request ≡ id
  id_is = subst (λ o. IfSome o (λ b. id_at b.request ≡ id)) is (ids source id)

  removed_there : (key : RequestKey) → (key ≡ request_key source id → ⊥) → map.get without_it key ≡ map.get pending key
  removed_there key apart =
      map.get-remove request_keys_total pending (request_key source id) key
      ∙ ap (λ t. cond t None (map.get pending key)) (not_one key (request_key source id) apart)

  removed_here : map.get without_it (request_key source id) ≡ None
  removed_here =
      map.get-remove request_keys_total pending (request_key source id) (request_key source id)
      ∙ ap (λ t. cond t None (map.get pending (request_key source id))) ((eq_by_cmp_equiv request_keys_total).refl (request_key source id))

  pub ids_without : AreUnderTheirIds without_it
  ids_without other i =
      subst (λ o. IfSome o (λ b. id_at b.request ≡ i)) (sym (map.get-remove request_keys_total pending (request_key source id) (request_key other i)))
      (by_key (eq_by_cmp request_key_cmp (request_key other i) (request_key source id)))
    where
      by_key : (t : Bool) → IfSome (cond t None (map.get pending (request_key other i))) (λ b. id_at b.request ≡ i)
      by_key true = tt
      by_key false = ids other i

  -- what comes of an entry then
  each_answered : (e : Entry) (t : Bool) → (id_in e == id_at a.request) ≡ t
      → entry_once_given handed answers (map.get without_it (request_key source (id_in (if t then given_entry else e)))) (if t then given_entry else e)
      ≡ entry_once_given handed answers (map.get pending (request_key source (id_in e))) e
  each_answered e true same =
      ap (λ n. entry_once_given handed answers (map.get without_it (request_key source n)) given_entry) id_is
      ∙ ap (λ o. entry_once_given handed answers o given_entry) removed_here
      ∙ ap (λ n. entry_given handed a (answers n)) (sym number_is)
      ∙ sym (ap (λ n. entry_once_given handed answers (map.get pending (request_key source n)) e) (eqb-true (id_in e) (id_at a.request) same ∙ id_is) ∙ ap (λ o. entry_once_given handed answers o e) is)
  each_answered e false other =
      ap (λ o. entry_once_given handed answers o e) (removed_there (request_key source (id_in e)) (λ same. absurd (eqb-false (id_in e) (id_at a.request) other (ap (λ (k : RequestKey). k.id) same ∙ sym id_is))))

  kept_answered : (other : ℕ) (t : Bool) → (source == other) ≡ t
      → list_map (λ e. entry_once_given handed answers (map.get without_it (request_key other (id_in e))) e) (if t then replaced id_in given_entry (held.kept other) else held.kept other)
      ≡ list_map (λ e. entry_once_given handed answers (map.get pending (request_key other (id_in e))) e) (held.kept other)
  kept_answered other true here =
      map_map (λ e. entry_once_given handed answers (map.get without_it (request_key other (id_in e))) e) (λ e. if id_in e == id_at a.request then given_entry else e) (held.kept other)
      ∙ same_lists _ _ (held.kept other) (λ e.
      subst (λ s. entry_once_given handed answers (map.get without_it (request_key s (id_in (if id_in e == id_at a.request then given_entry else e)))) (if id_in e == id_at a.request then given_entry else e)
      ≡ entry_once_given handed answers (map.get pending (request_key s (id_in e))) e) (eqb-true source other here)
      (each_answered e (id_in e == id_at a.request) refl))
  kept_answered other false there =
      same_lists _ _ (held.kept other) (λ e.
      ap (λ o. entry_once_given handed answers o e) (removed_there (request_key other (id_in e)) (λ same. absurd (eqb-false source other there (sym (ap (λ (k : RequestKey). k.source) same))))))

pub answered_in_turn : AnsweredByParts
answered_in_turn own handed busy window keep answers count pending held calls handle a left asked =
    let found = numbered_is handle.number (map.get pending (request_key handle.source handle.id)) a asked in
    record {
      ids = ids_without handed answers pending held left.ids handle.source handle.id handle.number a found.0 found.1;
      left = same_is_left (in_turn handed answers) own busy window keep 0 _ (over count (to_be handed answers pending held)) calls (record {
        own = refl;
        busy = refl;
        window = refl;
        keep = refl;
        open_messages = refl;
        kept = λ source. kept_answered handed answers pending held left.ids handle.source handle.id handle.number a found.0 found.1 source (handle.source == source) refl;
        state = refl;
        serves_from = refl;
        last = refl;
      }) left.left;
    }

-- ---- a restart, and a new endpoint
none_under_ids : AreUnderTheirIds map.empty
none_under_ids source id = subst (λ o. IfSome o (λ a. id_at a.request ≡ id)) (sym (map.get-empty request_key_cmp (request_key source id))) tt

pub restarted_in_turn : assembly.NewLooksBack → RestartedByParts
restarted_in_turn new own handed busy window keep answers count pending held calls moment left = record {
  ids = none_under_ids;
  left = same_is_left (in_turn handed answers) own busy window keep 0 _ (restarted_held (over count (to_be handed answers pending held)) moment) (Restart moment ∷ calls) (record {
    own = refl;
    busy = refl;
    window = refl;
    keep = refl;
    open_messages = refl;
    kept = λ source. refl;
    state = refl;
    serves_from = refl;
    last = refl;
  }) (restarted_looks_back (in_turn handed answers) new own busy window keep 0 (over count (to_be handed answers pending held)) calls moment left.left);
}

-- ---- another endpoint ID is assigned
-- while there is none, no request comes, and so nothing is kept
none_comes : (bytes : List ℕ) → (reason : Reason) × (request_packet NULL_EID bytes ≡ Err reason)
none_comes bytes =
    let dropped = drops_without_eid (in_turn none_handed_on (λ _. unasked)) (held_at_first NULL_EID All 1 1 0) 0 bytes refl in
    (dropped.0, ap (λ r. passed is_expected (unless r (packet_of bytes))) dropped.1)

module _ (busy : RestartPolicy) (window keep : ℕ) where
  assigned_recent : (t : Bool) (moment : ℕ) (h : List (Event ℕ)) (source : ℕ) → (t ≡ true → recent busy window keep h source ≡ []) → recent busy window keep (if t then h else Restarted moment ∷ h) source ≡ []
  assigned_recent true moment h source none = none refl
  assigned_recent false moment h source none = refl

  none_recent : (calls : List (Call ℕ)) (source : ℕ) → recent busy window keep (events NULL_EID calls) source ≡ []
  none_recent [] source = refl
  none_recent (Received moment bytes ∷ calls) source =
      ap (λ p. recent busy window keep (with_arrival (passed_arrival (looked_back (fed NULL_EID calls)) moment p) (events NULL_EID calls)) source) (none_comes bytes).1
      ∙ none_recent calls source
  none_recent (Sensed id value ∷ calls) source = none_recent calls source
  none_recent (Restart moment ∷ calls) source = refl
  none_recent (Updated state ∷ calls) source = none_recent calls source
  none_recent (Ended key ∷ calls) source = none_recent calls source
  none_recent (Assigned moment before ∷ calls) source =
      assigned_recent (before == NULL_EID) moment (events before calls) source
      (λ is. ap (λ own. recent busy window keep (events own calls) source) (eqb-true before NULL_EID is) ∙ none_recent calls source)

map_none : {A B : Type 0} (f : A → B) (xs : List A) → list_map f xs ≡ [] → xs ≡ []
map_none f [] none = refl
map_none f (x ∷ xs) none = cc

none_kept : (own : ℕ) (handed : PassThrough) (busy : RestartPolicy) (window keep : ℕ) (answers : ℕ → Given) (count : ℕ) (pending : PendingCommands) (held : ResponderState (Unit {0})) (calls : List (Call ℕ))
    → IsLeftByParts own handed busy window keep answers count pending held calls → own ≡ NULL_EID → (source : ℕ) → held.kept source ≡ []
none_kept own handed busy window keep answers count pending held calls left none source =
    map_none (λ e. entry_once_given handed answers (map.get pending (request_key source (id_in e))) e) (held.kept source)
    (left.left.kept source
    ∙ ap (λ o. list_map (entry_at (in_turn handed answers) busy window keep 0) (take window (recent busy window keep (events o calls) source))) none
    ∙ ap (λ places. list_map (entry_at (in_turn handed answers) busy window keep 0) (take window places)) (none_recent busy window keep calls source)
    ∙ ap (list_map (entry_at (in_turn handed answers) busy window keep 0)) (take-nil {A = Place ℕ} window))

-- t where there was no endpoint ID before: then nothing is kept
assigned_alike : (t : Bool) (handed : PassThrough) (answers : ℕ → Given) (count : ℕ) (pending : PendingCommands) (held : ResponderState (Unit {0})) (moment eid : ℕ) → (t ≡ true → (source : ℕ) → held.kept source ≡ [])
    → IsHeld (over count (to_be handed answers map.empty (record (if t then held else restarted_held held moment) { own = eid; open_messages = map.empty; last = moment })))
    (record (if t then over count (to_be handed answers pending held) else restarted_held (over count (to_be handed answers pending held)) moment) { own = eid; open_messages = map.empty; last = moment })
assigned_alike true handed answers count pending held moment eid none = record {
  own = refl;
  busy = refl;
  window = refl;
  keep = refl;
  open_messages = refl;
  kept = λ source.
      ap (list_map (λ e. entry_once_given handed answers (map.get map.empty (request_key source (id_in e))) e)) (none refl source)
      ∙ sym (ap (list_map (λ e. entry_once_given handed answers (map.get pending (request_key source (id_in e))) e)) (none refl source));
  state = refl;
  serves_from = refl;
  last = refl;
}
assigned_alike false handed answers count pending held moment eid none = record {
  own = refl;
  busy = refl;
  window = refl;
  keep = refl;
  open_messages = refl;
  kept = λ source. refl;
  state = refl;
  serves_from = refl;
  last = refl;
}

pub assigned_in_turn : assembly.NewLooksBack → AssignedByParts
assigned_in_turn new own handed busy window keep answers count pending held calls moment eid left = record {
  ids = none_under_ids;
  left = same_is_left (in_turn handed answers) eid busy window keep 0 _ (assigned_held (over count (to_be handed answers pending held)) moment eid) (Assigned moment own ∷ calls)
      (assigned_alike (held.own == NULL_EID) handed answers count pending held moment eid
      (λ t. none_kept own handed busy window keep answers count pending held calls left (sym left.left.endpoint ∙ eqb-true held.own NULL_EID t)))
      (assigned_looks_back (in_turn handed answers) new own busy window keep 0 (over count (to_be handed answers pending held)) calls moment eid left.left);
}

pub ended_in_turn : assembly.ForgetLooksBack → EndedByParts
ended_in_turn looks own handed busy window keep answers count pending held calls key left = record {
  ids = left.ids;
  left = ended_looks_back (in_turn handed answers) looks own busy window keep 0 (over count (to_be handed answers pending held)) calls key left.left;
}

pub new_in_turn : assembly.NewLooksBack → NewByParts
new_in_turn new own handed busy window keep answers = record {
  ids = none_under_ids;
  left = same_is_left (in_turn handed answers) own busy window keep 0 _ _ [] (record {
    own = refl;
    busy = refl;
    window = refl;
    keep = refl;
    open_messages = refl;
    kept = λ source. refl;
    state = refl;
    serves_from = refl;
    last = refl;
  }) (new_looks_back (in_turn handed answers) new own busy window keep 0);
}

pub same_in_turn : SameByParts
same_in_turn own handed busy window keep answers count pending new held calls same left = record {
  ids = left.ids;
  left = same_is_left (in_turn handed answers) own busy window keep 0 _ (over count (to_be handed answers pending held)) calls (record {
    own = same.own;
    busy = same.busy;
    window = same.window;
    keep = same.keep;
    open_messages = same.open_messages;
    kept = λ source. ap (list_map (λ e. entry_once_given handed answers (map.get pending (request_key source (id_in e))) e)) (same.kept source);
    state = refl;
    serves_from = same.serves_from;
    last = same.last;
  }) left.left;
}
