-- What `walk` asks and prints.
use Rattle.std.specs.Io.KnownBytes.{Appends}
use Rattle.std.specs.Prelude.{◌≡◌, ◌≢◌, ◌<◌, ◌+◌, ◌⊎◌, ◌==◌, ℕ, zero, suc, Bool, false, List, [], ◌∷◌, ◌++◌, length, slice_get, unwrap_or, Option, None, Some}
use Rattle.std.specs.Prelude.{if◌then◌else◌, max}
use Rattle.mctp_control.specs.Messages.{Response, response_of}
use Rattle.mctp_control.specs.declared.any_query.AnyQuery.{AnyQuery}
use Rattle.mctp_control.specs.declared.any_query.AnyQuery.TheVariants.{ToDevice}
use Rattle.mctp_control.specs.declared.assigned.TheConstants.{SUCCESS}
use Rattle.mctp_control.specs.declared.command.Command.{Command as ControlCommand}
use Rattle.mctp_control.specs.declared.command.Command.TheVariants as controls
use Rattle.pldm_line.specs.Asked.{AskStops, Shown}
use Rattle.pldm_line.specs.Ends.{answer_of}
use Rattle.pldm_line.specs.Queries.{AsksQuery}
use Rattle.pldm_line.specs.declared.ask_fault.AskFault.{AskFault}
use Rattle.pldm_line.specs.declared.ask_fault.AskFault.TheVariants.{TooMany}
use Rattle.mctpctl_decode.specs.AnswersToCommands.{line_to}
use Rattle.mctpctl_decode.specs.RecordTexts.{record_lines}
use Rattle.mctpctl_table.specs.Rows.{Described, described_of, rows_by}
use Rattle.mctpctl_table.specs.Tables.{Cells, table_text}
use Rattle.pldm_discovery.specs.Steps.{after}
use Rattle.pldm_discovery.specs.Walks.{Walking, begun as begun_walk, next_command, reading_at}
use Rattle.pldm_discovery.specs.declared.discovered.Discovered.{Discovered}
use Rattle.pldm_wire.specs.declared.limits.TheConstants.{GET_NEXT_PART}
use Rattle.pldm_wire.specs.declared.command.Command.{Command}
use Rattle.pldm_wire.specs.declared.command.Command.TheVariants.{GetPdr}
use Rattle.pldm_requester.specs.declared.timing.Timing.{Timing}
use Rattle.mctpctl.specs.AskedTexts.{Prints, Reports, message_text, status_of_answer}
use Rattle.mctpctl.specs.Conversations.{printed_in, shown_in}
use Rattle.mctpctl.specs.declared.conversation.Conversation.{Conversation}
use Rattle.mctpctl.specs.declared.settings.Settings.{Settings}
use Rattle.mctpctl.specs.declared.statuses.TheConstants.{DONE, FAILED, REFUSED}

-- ---- the endpoint: control messages, on tag 0, which no request has yet
abbrev pub query_of : Settings → ℕ → ControlCommand → AnyQuery
query_of settings id command =
    ToDevice (record { own = settings.own; device = settings.device; tag = 0; id = id; command = command })

abbrev pub status_of_response : Option Response → ℕ
status_of_response None = REFUSED
status_of_response (Some response) = if response.code == SUCCESS then DONE else REFUSED

-- the exit status of an answer, by its completion code
abbrev pub status_of_query : List ℕ → ℕ
status_of_query message = status_of_response (response_of message)

abbrev pub status_for : Option (List ℕ) → ℕ
status_for (Some message) = status_of_query message
status_for None = FAILED

-- the query went out until it was answered or had its tries, and its own answer was printed
pub record AsksAndPrints
    (timing : Timing) (q : AnyQuery) (answer : Option (List ℕ)) (s s1 : Shown) (out out1 : Option (List ℕ))
    : Type 0 where
  pub asks : AsksQuery q timing.timeout timing.tries answer s s1
  pub prints : Prints (message_text false) answer out out1

-- so it did, with this exit status
pub record ReportsQuery (timing : Timing) (q : AnyQuery) (status : ℕ) (s s1 : Shown) (out out1 : Option (List ℕ))
    : Type 0 where
  pub answer : Option (List ℕ)
  pub asks : AsksAndPrints timing q answer s s1 out out1
  pub status_is : status ≡ status_for answer

-- queries were asked one after another, each once, from an instance ID on, up to the first one without an answer; this
-- is the greatest of their exit statuses
abbrev pub AsksQueries :
    Settings → ℕ → List ControlCommand → ℕ → Shown → Shown → Option (List ℕ) → Option (List ℕ) → Type 0
AsksQueries settings id [] status s s1 out out1 = (s1 ≡ s) × (out1 ≡ out) × (status ≡ DONE)
AsksQueries settings id (command ∷ commands) status s s1 out out1 =
    (one : ℕ) × (mid : Shown) × (mid_out : Option (List ℕ))
    × ReportsQuery settings.timing (query_of settings id command) one s mid out mid_out
    × (((one ≡ FAILED) × (s1 ≡ mid) × (out1 ≡ mid_out) × (status ≡ FAILED))
    ⊎ ((one ≢ FAILED) × (rest : ℕ) × AsksQueries settings (id + 1) commands rest mid s1 mid_out out1
    × (status ≡ max one rest)))

-- what a bus owner asks an endpoint that it has found
abbrev pub endpoint_queries : List ControlCommand
endpoint_queries = controls.GetEndpointId ∷ controls.GetEndpointUuid ∷ controls.GetMessageTypeSupport ∷ []

-- from this instance ID on
abbrev pub AsksEndpoint : Settings → ℕ → ℕ → Shown → Shown → Option (List ℕ) → Option (List ℕ) → Type 0
AsksEndpoint settings first_id status s s1 out out1 =
    AsksQueries settings first_id endpoint_queries status s s1 out out1

-- ---- the walk
-- how far a walk has come, on which line, and what was printed, where that is known
pub record WalkView : Type 0 where
  pub walking : Walking
  pub shown : Shown
  pub out : Option (List ℕ)

abbrev pub walk_view :
    {C R W O : Type 0} → (C → Option (List ℕ)) → (R → Option (List ℕ)) → (W → Option (List ℕ)) → (O → Option (List ℕ))
    → Walking → Conversation C R W O → WalkView
walk_view to_come remaining contents printed walking conversation = record {
  walking = walking;
  shown = shown_in to_come remaining contents conversation;
  out = printed_in printed conversation;
}

-- whether a command asks for another part than the first of a record
abbrev pub goes_on : Command → Bool
goes_on (GetPdr record_handle data_transfer_handle transfer_operation_flag request_count record_change_number) =
    transfer_operation_flag == GET_NEXT_PART
goes_on command = false

abbrev pub joined_text : Option (List ℕ) → List ℕ
joined_text (Some pdr) = record_lines pdr
joined_text None = []

-- the fields of the record at a place, where it is there and the command asked for its last part: one that came in one
-- part stands below its answer
abbrev pub record_text : Command → ℕ → Walking → List ℕ
record_text command place w = if goes_on command then joined_text (slice_get w.records place) else []

-- the next command was asked, the answer to that very request was printed, and the walk took it; then the record that
-- it completed was printed, where that came in several parts; and this is the exit status of that answer
pub record Visits (status : ℕ) (a b : WalkView) : Type 0 where
  pub command : Command
  pub next : next_command a.walking ≡ Some command
  pub number : ℕ
  pub answered : Option (List ℕ)
  pub reports : Reports (line_to command) command number a.shown b.shown a.out answered
  pub takes : b.walking ≡ after a.walking (answer_of b.shown.asking.held number)
  pub joined : Appends answered b.out (record_text command (length a.walking.records) b.walking)
  pub status_is : status ≡ status_of_answer (answer_of b.shown.asking.held number)

-- at the walk's end nothing was done
abbrev pub StepsOn : Option ℕ → WalkView → WalkView → Type 0
StepsOn None a b = (next_command a.walking ≡ None) × (b ≡ a)
StepsOn (Some status) a b = Visits status a b

-- command after command was asked, each after answered ones; so it stood before each, the newest first, and this is the
-- greatest of the exit statuses
abbrev pub Walked : ℕ → WalkView → List WalkView → WalkView → Type 0
Walked status a [] b = (b ≡ a) × (status ≡ DONE)
Walked status a (mid ∷ before) b =
    (so_far : ℕ) × (one : ℕ) × (so_far < FAILED) × Walked so_far a before mid × Visits one mid b
    × (status ≡ max so_far one)

-- up to the walk's end, or to a command without an answer
pub record WalksThrough (status : ℕ) (a b : WalkView) : Type 0 where
  pub before : List WalkView
  pub walked : Walked status a before b
  pub ends : (next_command b.walking ≡ None) ⊎ (status ≡ FAILED)

-- the line stopped at the next command
pub record StopsNext (fault : AskFault) (a b : WalkView) : Type 0 where
  pub command : Command
  pub next : next_command a.walking ≡ Some command
  pub stops : AskStops command fault a.shown b.shown

-- command after command was asked; then the line stopped at the next one, or there were too many
pub record StopsWalking (fault : AskFault) (a b : WalkView) : Type 0 where
  pub before : List WalkView
  pub last : WalkView
  pub status : ℕ
  pub walked : Walked status a before last
  pub reason : StopsNext fault last b ⊎ ((fault ≡ TooMany) × (length before ≡ 18446744073709551615))

-- ---- the table
-- the record by which something was found
abbrev pub record_at : Walking → Discovered → List ℕ
record_at w found = unwrap_or (slice_get w.records found.place) []

-- what it says of it, with its names among the records
abbrev pub described_at : Walking → Discovered → Option Described
described_at w found = described_of (record_at w found) w.records

-- the rows of what was found, if something was: by its record, and by the message that came for it
abbrev pub rows_heard : Walking → Option Discovered → Option (List ℕ) → List Cells
rows_heard w None message = []
rows_heard w (Some found) message = rows_by (described_at w found) message

-- the rows of what was found at a place: by what answered for it
abbrev pub rows_at : Walking → ℕ → List Cells
rows_at w place = rows_heard w (slice_get w.found place) (reading_at w place)

-- of what was found at the first places, so many
abbrev pub first_rows : Walking → ℕ → List Cells
first_rows w zero = []
first_rows w (suc place) = first_rows w place ++ rows_at w place

abbrev pub walked_rows : Walking → List Cells
walked_rows w = first_rows w (length w.found)

-- after a blank line, where something was found
abbrev pub walk_text : Walking → List ℕ
walk_text w = (if length w.found == 0 then [] else 10 ∷ []) ++ table_text (walked_rows w)

-- ---- all of it
-- the endpoint was asked, and then what a walk asks, up to its end; then the table was printed. The exit status is the
-- greatest, or FAILED where the records were not written to their file
pub record WalksOn (settings : Settings) (first_id status : ℕ) (s s1 : Shown) (out out1 : Option (List ℕ)) : Type 0 where
  pub endpoint : ℕ
  pub begun : Shown
  pub begun_out : Option (List ℕ)
  pub asks : AsksEndpoint settings first_id endpoint s begun out begun_out
  pub walked : ℕ
  pub first : WalkView
  pub last : WalkView
  pub walks : WalksThrough walked first last
  pub from_the_start : first ≡ record { walking = begun_walk; shown = begun; out = begun_out }
  pub shown : last.shown ≡ s1
  pub prints : Appends last.out out1 (walk_text last.walking)
  pub status_is : (status ≡ max endpoint walked) ⊎ (status ≡ FAILED)

-- where the endpoint did not answer, nothing more was asked or printed
abbrev pub WalksDevice : Settings → ℕ → ℕ → Shown → Shown → Option (List ℕ) → Option (List ℕ) → Type 0
WalksDevice settings first_id status s s1 out out1 =
    (AsksEndpoint settings first_id FAILED s s1 out out1 × (status ≡ FAILED))
    ⊎ WalksOn settings first_id status s s1 out out1
