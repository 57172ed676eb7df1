-- The headline: over a timely schedule of losses, repeats and reorderings, with restarts, the device's state and each
-- reply are those of performing, once each, the requests that arrived, in the order of their first arrivals; all copies
-- of a request get the same message; and each answer that a requester took is that message, of a request that was
-- performed exactly once. The platform itself has performed the command of each request that arrived once, at its first
-- arrival, a reading or refused one too, and no other. Steps have the newest first.
use Rattle.std.specs.Prelude.{◌≡◌, ℕ, List, [], ◌∷◌, ◌++◌, Option, Some, None, slice_get}
use Rattle.pldm_platform.specs.Changes.{made_of}
use Rattle.pldm_requester.specs.Courses.{Progress, Answered}
use Rattle.pldm_wire.specs.declared.command.Command.{Command}
use Rattle.pldm_responder.specs.Events.{is_busy}
use Rattle.mctp_schedule.specs.Entries.{entry_of, got_entry}
use Rattle.mctp_schedule.specs.FirstArrivals.{IsOrderOfFirsts}
use Rattle.mctp_schedule.specs.Logs.{Asked, asked_at, reached}
use Rattle.mctp_schedule.specs.OncePerformed.{delivery_expected, once}
use Rattle.mctp_schedule.specs.PerformedCommands.{commands_once}
use Rattle.mctp_schedule.specs.Requests.{Request as EndedRequest}
use Rattle.mctp_schedule.specs.RequesterHalf.{ProgressIs, WasPerformedOnce}
use Rattle.mctp_schedule.specs.TakenReplies.{busy_expected, reply_expected}
use Rattle.mctp_schedule.specs.Worlds.{BothEnds, world}
use Rattle.mctp_schedule.specs.declared.entry.Entry.{Entry}
use Rattle.mctp_schedule.specs.declared.entry.Entry.TheVariants.{Nothing, Delivered, Sensed}
use Rattle.mctp_schedule.specs.Actions.{Action}
use Rattle.mctp_schedule.specs.Actions as actions
use Rattle.mctp_schedule.specs.Actions.{Step}

module _ {S : Type 0} (setting : BothEnds S) where
  -- the device's state where each request that arrived is performed once, at its first arrival
  abbrev pub state_once : List Step → S
  state_once steps = once setting.device setting.keep setting.start (world setting steps).log

  -- what a delivery of request k owes: nothing where it was never opened; after a restart a busy answer; else its one
  -- reply, reported as fresh at its first arrival and as a copy later
  abbrev pub delivery_owes : List Step → ℕ → ℕ → Option Asked → Entry
  delivery_owes past moment k None = Nothing
  delivery_owes past moment k (Some r) =
      let log = (world setting past).log in
      Delivered (is_busy setting.keep (reached {S = S} log) moment)
      (delivery_expected setting.device setting.keep setting.start setting.eid log moment k r)

  -- the entry that an action has to have after these steps; that of an open and of a tick is what the calls of their
  -- requester give
  abbrev pub entry_owes : List Step → ℕ → Action → Entry
  entry_owes past moment (actions.Request k) = delivery_owes past moment k (asked_at (world setting past).log k)
  entry_owes past moment (actions.Reply j k) = got_entry (reply_expected setting past k j)
  entry_owes past moment (actions.Busy k) = got_entry (busy_expected setting past k)
  entry_owes past moment (actions.Sense id value) =
      Sensed (made_of (λ _. tt) (setting.device.sensed (state_once past) id value))
  entry_owes past moment (actions.Open e ask) =
      entry_of setting (world setting past) moment (actions.Open e ask)
  entry_owes past moment (actions.Tick e) = entry_of setting (world setting past) moment (actions.Tick e)
  entry_owes past moment actions.Restart = entry_of setting (world setting past) moment actions.Restart

  -- the entries of these steps, the oldest first
  abbrev pub entries_expected : List Step → List Entry
  entries_expected [] = []
  entries_expected (step ∷ past) = entries_expected past ++ entry_owes past step.moment step.action ∷ []

  -- request k, which is r, is reported as it was opened, and as answered by its one reply exactly where it was taken;
  -- an answer is of a request that was performed exactly once
  pub record IsReported (steps : List Step) (k : ℕ) (r : Asked) (requests : List EndedRequest) : Type 0 where
    pub progress : Progress
    pub reported : slice_get requests k ≡ Some (record { asked = r; progress = progress })
    pub stands : ProgressIs setting steps k progress
    pub performed : (message : List ℕ) → progress ≡ Answered message → WasPerformedOnce setting steps k r message

  -- what a run over these steps reports is this
  pub record Headline
      (steps : List Step) (entries : List Entry) (requests : List EndedRequest) (order : List ℕ) (state : S)
      (Performed : List Command → Type 0)
      : Type 0 where
    pub each_step : entries ≡ entries_expected steps
    pub each_request : (k : ℕ) (r : Asked) → asked_at (world setting steps).log k ≡ Some r → IsReported steps k r requests
    pub performed_in_order : IsOrderOfFirsts S setting.keep (world setting steps).log order
    pub performed_once : state ≡ state_once steps
    pub each_command_once : Performed (commands_once S setting.keep (world setting steps).log)
