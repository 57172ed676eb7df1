-- The device is asked what each fresh request asks, and each asking has the number of those before it.
use Rattle.std.specs.FinMap as map
use Rattle.std.specs.Prelude.{option_map}
use Rattle.std.proofs.Common.{◌≡◌, ℕ, ◌+◌, Bool, true, false, List, [], ◌∷◌, ◌++◌, length, Option, Some, None, IfSome, Result, Ok, Err, if◌then◌else◌, refl, sym, ap, ◌∙◌, arith}
use Rattle.mctp_packet.specs.declared.reason.Reason.{Reason}
use Rattle.mctp_assembly.specs.Laws as assembly
use Rattle.pldm_wire.specs.Answers.{answer_message}
use Rattle.pldm_wire.specs.CommandReading.{command_of}
use Rattle.pldm_wire.specs.HandingOn.{hands_on}
use Rattle.pldm_wire.specs.Requests.{Request, request_of}
use Rattle.pldm_wire.specs.declared.restart_policy.RestartPolicy.{RestartPolicy}
use Rattle.pldm_wire.specs.declared.command.Command.{Command}
use Rattle.pldm_wire.specs.declared.pass_through.PassThrough.{PassThrough}
use Rattle.pldm_responder.specs.Arrivals.{packets_back}
use Rattle.pldm_responder.specs.Asked.{Given, gives, response_in}
use Rattle.pldm_responder.specs.Askings.{askings}
use Rattle.pldm_responder.specs.Calls.{events}
use Rattle.pldm_responder.specs.Events.{Event, Came, Set, Restarted, Changed, Message, Place, is_copy, is_copy_of, is_fresh, is_refused}
use Rattle.pldm_responder.specs.ResponderStates.{Entry, id_in}
use Rattle.pldm_responder.specs.Laws.{entry_at}
use Rattle.pldm_responder.specs.Performing.{Task, answered_by, answer_to, performed, reply, reply_at, reply_to, response_to, tasks_at, tasks_of}
use Rattle.pldm_responder.specs.Steps.{received_arrival}
use Rattle.pldm_responder.specs.declared.outcome.Outcome.{Outcome}
use Rattle.pldm_responder.specs.declared.outcome.Outcome.TheVariants.{Answered}
use Rattle.pldm_responder.specs.Recency.{of_number}
use Rattle.pldm_responder.proofs.AskedOnce.{tasks_look_back}
use Rattle.pldm_responder.proofs.CallsLookBack.{entry_is}
use Rattle.pldm_responder.proofs.KeptEntries.{found_holds}
use Rattle.pldm_endpoint.specs.Histories.{entry_once_given, held_once_given, in_turn}
use Rattle.pldm_endpoint.specs.RequestKeys.{request_key}
use Rattle.pldm_endpoint.specs.TwoSteps.{entry_given, held_in}
use Rattle.pldm_endpoint.specs.Turns.{AnswersItsOrigin, CopiesAreAnsweredAgain, CountsAskings, IsAskedInTurn, is_unchanged}
use Rattle.pldm_endpoint.proofs.AnswersInTurn.{by_performing, comes, found_later, same_commands}
use Rattle.pldm_endpoint.proofs.CallsInTurn.{free_where_accepted}

pub asked_in_turn : assembly.FeedLooksBack → IsAskedInTurn
asked_in_turn looks answers e calls moment bytes left accepted =
    sym (same_commands e.handed_on answers e.count e.pending (held_in e) left.ids (received_arrival (held_in e) moment bytes) (free_where_accepted e moment bytes accepted))
    ∙ tasks_look_back (in_turn e.handed_on answers) looks (hands_on e.handed_on) e.end.own e.end.busy e.end.rows.window e.end.keep 0 (held_once_given answers e) calls moment bytes left.left

-- ---- the number of an asking
more_asked : (tasks before : List Task) → length (tasks ++ before) ≡ length tasks + length before
more_asked [] before = omega arith
more_asked (task ∷ tasks) before = omega (arith, more_asked tasks before)

module _ (handed : PassThrough) (busy : RestartPolicy) (window keep : ℕ) (answers : ℕ → Given) where
  pub counted : (events : List (Event ℕ)) → is_unchanged events ≡ true → performed (in_turn handed answers) busy window keep 0 events ≡ length (askings (tasks_of (hands_on handed)) busy window keep events)
  counted [] unchanged = refl
  counted (Set id value ∷ events) unchanged = counted events unchanged
  counted (Restarted moment ∷ events) unchanged = counted events unchanged
  counted (Changed coming ∷ events) unchanged = cc
  counted (Came m ∷ events) unchanged =
      let asked = if is_fresh busy window keep events m then tasks_at (hands_on handed) (request_of m.bytes) else [] in
      by_performing handed answers (is_fresh busy window keep events m) (performed (in_turn handed answers) busy window keep 0 events) (request_of m.bytes)
      ∙ ap (λ n. n + length asked) (counted events unchanged)
      ∙ turned (length (askings (tasks_of (hands_on handed)) busy window keep events)) (length asked)
      ∙ sym (more_asked asked (askings (tasks_of (hands_on handed)) busy window keep events))
    where
      turned : (m n : ℕ) → m + n ≡ n + m
      turned m n = omega arith

pub counts_askings : CountsAskings
counts_askings answers e calls left unchanged =
    left.left.state ∙ counted e.handed_on e.end.busy e.end.rows.window e.end.keep answers (events e.end.own calls) unchanged

-- ---- what goes out
abbrev answer_in : Option Entry → List ℕ
answer_in None = []
answer_in (Some e) = e.answer

abbrev bytes_in : Option Entry → List ℕ
bytes_in None = []
bytes_in (Some e) = e.bytes

pub answers_its_origin : AnswersItsOrigin
answers_its_origin answers e calls source id a place left is from =
    let device = in_turn e.handed_on answers in
    let kept = (held_in e).kept source in
    let entry : Entry = record { moment = place.message.moment; bytes = place.message.bytes; answer = reply_at device e.end.busy e.end.rows.window e.end.keep 0 place } in
    let same : Some (entry_given e.handed_on a (answers a.number)) ≡ Some entry =
    given_by (of_number id_in id kept) entry (found_holds (λ _. Unit {0}) id kept (λ k d below. tt))
    (sym (found_later e.handed_on answers e.count e.pending (held_in e) left.ids source id)
    ∙ ap (of_number id_in id) (left.left.kept source)
    ∙ entry_is device e.end.own e.end.busy e.end.rows.window e.end.keep 0 (events e.end.own calls) source id
    ∙ ap (option_map (entry_at device e.end.busy e.end.rows.window e.end.keep 0)) from) in
    (ap answer_in same, ap bytes_in same)
  where
    given_by : (o : Option Entry) (entry : Entry) → IfSome o (λ x. Unit {0} × (id_in x ≡ id)) → option_map (comes e.handed_on answers e.count e.pending (held_in e) left.ids source) o ≡ Some entry → Some (entry_given e.handed_on a (answers a.number)) ≡ Some entry
    given_by None entry found h = cc
    given_by (Some x) entry found h =
        sym (ap (λ n. Some (entry_once_given e.handed_on answers (map.get e.pending (request_key source n)) x)) found.1 ∙ ap (λ o. Some (entry_once_given e.handed_on answers o x)) is) ∙ h

-- ---- a copy
by_command : (handed : PassThrough) (answers : ℕ → Given) (count : ℕ) (r : Result Command ℕ) → answer_to (in_turn handed answers) count r ≡ answer_to (gives (hands_on handed) (answers count)) tt r
by_command handed answers count (Ok command) = refl
by_command handed answers count (Err code) = refl

by_request : (handed : PassThrough) (answers : ℕ → Given) (count : ℕ) (q : Result Request Reason) → reply_to (in_turn handed answers) count q ≡ reply_to (gives (hands_on handed) (answers count)) tt q
by_request handed answers count (Ok request) = ap (λ a. if hands_on handed request.kind then response_to request (response_in (answers count)) else answer_message request.id request.kind a) (by_command handed answers count (command_of request.kind request.rest))
by_request handed answers count (Err reason) = refl

given_at : (handed : PassThrough) (busy : RestartPolicy) (window keep : ℕ) (answers : ℕ → Given) (place : Place ℕ) → is_unchanged place.before ≡ true
    → reply_at (in_turn handed answers) busy window keep 0 place ≡ reply (gives (hands_on handed) (answers (length (askings (tasks_of (hands_on handed)) busy window keep place.before)))) tt place.message.bytes
given_at handed busy window keep answers place unchanged =
    ap (λ count. reply (in_turn handed answers) count place.message.bytes) (counted handed busy window keep answers place.before unchanged)
    ∙ by_request handed answers (length (askings (tasks_of (hands_on handed)) busy window keep place.before)) (request_of place.message.bytes)

expected_by : (busy copy : Bool) (other fresh kept : Outcome) → busy ≡ false → copy ≡ true → (if busy then other else (if copy then kept else fresh)) ≡ kept
expected_by false true other fresh kept serves is = refl
expected_by true copy other fresh kept serves is = cc
expected_by false false other fresh kept serves is = cc

at_origin : (handed : PassThrough) (busy : RestartPolicy) (window keep : ℕ) (answers : ℕ → Given) (events : List (Event ℕ)) (m : Message) (place : Place ℕ) (t : Bool) → t ≡ true
    → (if t then reply_at (in_turn handed answers) busy window keep 0 place else reply (in_turn handed answers) (performed (in_turn handed answers) busy window keep 0 events) m.bytes) ≡ reply_at (in_turn handed answers) busy window keep 0 place
at_origin handed busy window keep answers events m place true is = refl
at_origin handed busy window keep answers events m place false is = cc

pub copies_are_answered_again : CopiesAreAnsweredAgain
copies_are_answered_again own handed busy window keep answers events m place unchanged serves copy from =
    expected_by (is_refused busy keep events m) (is_copy busy window keep events m) _ _ _ serves copy
    ∙ ap (λ bytes. Answered false false (packets_back own m bytes)) (
    ap (answered_by (in_turn handed answers) busy window keep 0 events m) from
    ∙ at_origin handed busy window keep answers events m place (is_copy_of keep m (Some place)) (ap (is_copy_of keep m) (sym from) ∙ copy)
    ∙ given_at handed busy window keep answers place unchanged
    )
