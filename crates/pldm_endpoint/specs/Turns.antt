-- What the device gives goes to which asking: as much was asked before it as its number says.
use Rattle.std.specs.FinMap as map
use Rattle.std.specs.Prelude.{◌≡◌, ℕ, Bool, true, false, List, [], ◌∷◌, length, Some, None}
use Rattle.pldm_wire.specs.HandingOn.{hands_on}
use Rattle.pldm_wire.specs.Headers.{id_at}
use Rattle.pldm_wire.specs.declared.restart_policy.RestartPolicy.{RestartPolicy}
use Rattle.pldm_wire.specs.declared.pass_through.PassThrough.{PassThrough}
use Rattle.pldm_responder.specs.Arrivals.{packets_back}
use Rattle.pldm_responder.specs.Asked.{Given, gives}
use Rattle.pldm_responder.specs.Askings.{asked_by, askings}
use Rattle.pldm_responder.specs.Calls.{Call, answer_expected, arrived, events}
use Rattle.pldm_responder.specs.Events.{Event, Came, Set, Restarted, Changed, Message, Place, is_copy, is_refused, origin}
use Rattle.pldm_responder.specs.Performing.{reply, reply_at, tasks_of}
use Rattle.pldm_responder.specs.declared.outcome.Outcome.TheVariants.{Answered}
use Rattle.pldm_endpoint.specs.Histories.{IsLeftInTurn, in_turn}
use Rattle.pldm_endpoint.specs.Refusing.{refused_by}
use Rattle.pldm_endpoint.specs.RequestKeys.{request_key}
use Rattle.pldm_endpoint.specs.TwoSteps.{EndpointView, asked_now, held_in}
use Rattle.pldm_endpoint.specs.declared.pending_commands.PendingCommand.{PendingCommand}

-- the device is asked what looking back over the calls says: what a fresh request asks, and nothing else
abbrev pub IsAskedInTurn : Type 0
IsAskedInTurn =
    (answers : ℕ → Given) (e : EndpointView) (calls : List (Call ℕ)) (moment : ℕ) (bytes : List ℕ)
    → IsLeftInTurn answers e calls → refused_by e moment bytes ≡ None
    → asked_now e.handed_on (held_in e) moment bytes
    ≡ asked_by (tasks_of (hands_on e.handed_on)) e.end.busy e.end.rows.window e.end.keep (events e.end.own calls)
    (arrived e.end.own calls moment bytes)

-- nothing was changed from outside: no call of an endpoint does
abbrev pub is_unchanged : {S : Type 0} → List (Event S) → Bool
is_unchanged [] = true
is_unchanged (Came m ∷ events) = is_unchanged events
is_unchanged (Set id value ∷ events) = is_unchanged events
is_unchanged (Restarted moment ∷ events) = is_unchanged events
is_unchanged (Changed state ∷ events) = false

-- then an asking has the number of those before it
abbrev pub CountsAskings : Type 0
CountsAskings =
    (answers : ℕ → Given) (e : EndpointView) (calls : List (Call ℕ))
    → IsLeftInTurn answers e calls → is_unchanged (events e.end.own calls) ≡ true
    → e.count
    ≡ length
    (askings (tasks_of (hands_on e.handed_on)) e.end.busy e.end.rows.window e.end.keep (events e.end.own calls))

-- what goes out for what is pending is the reply of the request that it was asked for: the latest fresh one of its
-- source and instance ID, where fewer than `window` other instance IDs of the source had a fresh one since
abbrev pub AnswersItsOrigin : Type 0
AnswersItsOrigin =
    (answers : ℕ → Given) (e : EndpointView) (calls : List (Call ℕ)) (source id : ℕ) (a : PendingCommand)
    (place : Place ℕ)
    → IsLeftInTurn answers e calls → map.get e.pending (request_key source id) ≡ Some a
    → origin e.end.busy e.end.rows.window e.end.keep (events e.end.own calls) source id ≡ Some place
    → (reply (gives (hands_on e.handed_on) (answers a.number)) tt a.request
    ≡ reply_at (in_turn e.handed_on answers) e.end.busy e.end.rows.window e.end.keep 0 place)
    × (a.request ≡ place.message.bytes)

-- a copy gets the very answer that the device gave for its origin: that to the asking after those before it
abbrev pub CopiesAreAnsweredAgain : Type 0
CopiesAreAnsweredAgain =
    (own : ℕ) (handed : PassThrough) (busy : RestartPolicy) (window keep : ℕ) (answers : ℕ → Given)
    (events : List (Event ℕ)) (m : Message) (place : Place ℕ)
    → is_unchanged place.before ≡ true
    → is_refused busy keep events m ≡ false → is_copy busy window keep events m ≡ true
    → origin busy window keep events m.source (id_at m.bytes) ≡ Some place
    → answer_expected (in_turn handed answers) own busy window keep 0 events m
    ≡ Answered false false
    (packets_back own m (reply (gives (hands_on handed)
    (answers (length (askings (tasks_of (hands_on handed)) busy window keep place.before)))) tt place.message.bytes))
