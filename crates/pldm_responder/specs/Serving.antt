-- What a responder makes of a request: it is served, and a fresh one performed. `performing` holds of a platform,
-- commands, and the platform once they were performed.
use Rattle.std.specs.Prelude.{◌≡◌, ℕ, Bool, true, ◌||◌, ◌==◌, ◌<◌, ◌≤◌, List, [], length, take, None, Ok, if◌then◌else◌}
use Rattle.mctp_packet.specs.declared.TheConstants.{MAX_MESSAGE_BYTES}
use Rattle.pldm_wire.specs.Requests.{Request}
use Rattle.pldm_wire.specs.declared.command.Command.{Command}
use Rattle.pldm_responder.specs.Answering.{HasReply, answering}
use Rattle.pldm_responder.specs.Arrivals.{Whole}
use Rattle.pldm_responder.specs.Ends.{IsSameEnd, count_with, has_row}
use Rattle.pldm_responder.specs.Fitting.{AnswerFits, Fits}
use Rattle.pldm_responder.specs.ResponderStates.{IsHeld, id_in}
use Rattle.pldm_responder.specs.Performing.{Rules, changes, changes_at, commands_at, commands_of, next, next_after, reply, reply_to}
use Rattle.pldm_responder.specs.Looking.{end_finished, message_at}
use Rattle.pldm_responder.specs.Recency.{renewed}
use Rattle.pldm_responder.specs.Requested.{Requested}
use Rattle.pldm_responder.specs.Rooms.{AreRowsAfter}
use Rattle.pldm_responder.specs.Slots.{kept_in, row_of, source_count}
use Rattle.pldm_responder.specs.ResponderViews.{ResponderView, held_of}
use Rattle.pldm_responder.specs.Steps.{arrival_commands, arrival_held, entry_of, message_outcome, performs}
use Rattle.pldm_responder.specs.declared.outcome.MessageOutcome.{MessageOutcome}

-- a platform whose value `state_of` gives the state performed a request, or refused it
pub record IsDone {P S : Type 0} (state_of : P → S) (performing : P → List Command → P → Type 0) (device : Rules S)
    (old : P) (request : Request) (new : P) (answer : List ℕ) (changed : Bool) : Type 0 where
  pub answer_is : answer ≡ reply_to device (state_of old) (Ok request)
  pub changed_is : changed ≡ changes_at device (state_of old) (Ok request)
  pub state : state_of new ≡ next_after device (state_of old) (Ok request)
  pub performed : performing old (commands_at (Ok request)) new
  pub some : 0 < length answer
  pub few : length answer ≤ MAX_MESSAGE_BYTES

-- it had no memory for it, and its state is as before
pub record IsUndone {P S : Type 0} (state_of : P → S) (performing : P → List Command → P → Type 0) (old new : P) : Type 0
  where
    pub state : state_of new ≡ state_of old
    pub none_performed : performing old [] new

module _ {P S : Type 0} (performing : P → List Command → P → Type 0) (old : ResponderView P S) (moment : ℕ) (r : Requested)
    (new : ResponderView P S) where
  -- a request was served over a platform of these rules; `taken` and `answer` are what came of it
  pub record IsServed (device : Rules S) (answer : List ℕ) (taken : MessageOutcome) : Type 0 where
    pub outcome_is : answering answer taken ≡ message_outcome device (held_of old) (message_at moment r)
    pub some : HasReply answer taken
    pub held :
        IsHeld (held_of new)
        (record (arrival_held device (held_of old) (Whole (message_at moment r))) {
          open_messages = (end_finished old.end moment r).open_messages;
          last = moment;
        })
    pub performed :
        performing old.platform (arrival_commands (held_of old) (Whole (message_at moment r))) new.platform
    pub fits : AnswerFits device (held_of old) (message_at moment r)
    pub room : AreRowsAfter (held_of old) old.end.rows (Whole (message_at moment r)) new.end.rows
    pub bounds : new.end.bounds ≡ old.end.bounds

  -- a fresh one was performed or refused, and its answer is kept
  pub record IsPerformed (device : Rules S) (answer : List ℕ) (changed : Bool) : Type 0 where
    pub answer_is : answer ≡ reply device old.state r.bytes
    pub fits : Fits answer
    pub changed_is : changed ≡ changes device old.state r.bytes
    pub state : new.state ≡ next device old.state r.bytes
    pub performed : performing old.platform (commands_of r.bytes) new.platform
    pub kept :
        (other : ℕ) → kept_in new.end.rows other
        ≡ (if r.source == other
        then take old.end.rows.window
        (renewed id_in (entry_of device (held_of old) (message_at moment r)) (kept_in old.end.rows other))
        else kept_in old.end.rows other)
    pub window : new.end.rows.window ≡ old.end.rows.window
    pub rows : (other : ℕ) → has_row new.end.rows other ≡ (has_row old.end.rows other || r.source == other)
    pub sources : source_count new.end.rows ≡ count_with old.end.rows r.source
    pub rest : record new.end { rows = old.end.rows } ≡ old.end

  -- there was no memory for it, and all is as before
  pub record IsNotPerformed (steady : Bool) : Type 0 where
    pub lacks_row : steady ≡ true → row_of old.end.rows r.source ≡ None
    pub same : IsSameEnd new.end old.end
    pub state : new.state ≡ old.state
    pub none_performed : performing old.platform [] new.platform

  -- the same, where it was to be served: it is fresh
  pub record IsNotServed (steady : Bool) : Type 0 where
    pub fresh : performs (held_of old) (message_at moment r) ≡ true
    pub not_performed : IsNotPerformed steady
