-- What came of each step: what both ends answered to it.
use Rattle.std.specs.Prelude.{ℕ, ℤ, List, [], ◌∷◌, ◌++◌, ◌==◌, map, slice_index, Option, Some, None, Result, Ok, Err, if◌then◌else◌}
use Rattle.pldm_wire.specs.declared.restart_policy.RestartPolicy.TheVariants.{All}
use Rattle.pldm_platform.specs.Changes.{made_of}
use Rattle.pldm_responder.specs.Calls.{answer_expected}
use Rattle.pldm_responder.specs.Events.{is_busy}
use Rattle.pldm_responder.specs.Performing.{performed}
use Rattle.pldm_requester.specs.Calls.{again_expected, given_up_expected, open_expected}
use Rattle.pldm_requester.specs.declared.results.Due.{Due as DueNumbers}
use Rattle.pldm_requester.specs.declared.results.Got.{Got}
use Rattle.pldm_requester.specs.declared.results.Opened.{Opened as OpenedAs}
use Rattle.pldm_requester.specs.declared.results.OpenFault.{OpenFault}
use Rattle.mctp_schedule.specs.HandedPackets.{got_of_busy, got_of_reply}
use Rattle.mctp_schedule.specs.Logs as logs
use Rattle.mctp_schedule.specs.Logs.{Asked, Happening, asked_at, count_of, message_at, reached, endpoint_of}
use Rattle.mctp_schedule.specs.Requests.{Request as EndedRequest}
use Rattle.mctp_schedule.specs.Worlds.{BothEnds, World, requests_of, timing_of, world}
use Rattle.mctp_schedule.specs.declared.entry.Entry.{Entry}
use Rattle.mctp_schedule.specs.declared.entry.Entry.TheVariants.{Nothing, Opened, NotOpened, Due, Delivered, Received, Sensed, Restarted}
use Rattle.mctp_schedule.specs.Actions.{Action}
use Rattle.mctp_schedule.specs.Actions as actions
use Rattle.mctp_schedule.specs.Actions.{Step}

-- the numbers, over all requests, of the requests of one endpoint, in the order of their openings
abbrev pub numbers_of : List Happening → ℕ → List ℕ
numbers_of [] e = []
numbers_of (logs.Opened r ∷ past) e =
    if r.source == e then numbers_of past e ++ count_of past ∷ [] else numbers_of past e
numbers_of (_ ∷ past) e = numbers_of past e

-- an endpoint's own numbers as numbers over all requests
abbrev pub numbered : List ℕ → List ℕ → List ℕ
numbered numbers owns = map (slice_index numbers) owns

-- what is due by own numbers, by numbers over all requests
abbrev pub due_over_all : List ℕ → DueNumbers → DueNumbers
due_over_all numbers due = record {
  again = record { items = numbered numbers due.again.items };
  given_up = record { items = numbered numbers due.given_up.items };
}

abbrev pub open_entry : ℕ → Result OpenedAs OpenFault → Entry
open_entry number (Ok opened) = Opened number
open_entry number (Err fault) = NotOpened fault

abbrev pub got_entry : Option Got → Entry
got_entry None = Nothing
got_entry (Some got) = Received got

module _ {S : Type 0} (setting : BothEnds S) where
  -- what a tick finds due: what is sent again and what is given up, by the numbers over all requests
  abbrev pub due_at : World → ℕ → ℕ → DueNumbers
  due_at world moment e =
      let numbers = numbers_of world.log e in
      let calls = world.calls e in
      let timing = timing_of setting e in
      let pace = setting.pace in
      record {
        again = record { items = numbered numbers (again_expected (endpoint_of e) setting.eid timing pace calls moment) };
        given_up = record { items = numbered numbers (given_up_expected (endpoint_of e) setting.eid timing pace calls moment) };
      }

  -- what the responder answers to the packet of a request
  abbrev pub delivery_entry : List Happening → ℕ → Option Asked → Entry
  delivery_entry log moment None = Nothing
  delivery_entry log moment (Some r) =
      Delivered (is_busy setting.keep (reached {S = S} log) moment)
      (answer_expected setting.device setting.eid All setting.window setting.keep setting.start (reached log)
      (message_at moment r))

  abbrev pub reading_entry : List Happening → ℕ → ℤ → Entry
  reading_entry log id value =
      let state = performed setting.device All setting.window setting.keep setting.start (reached log) in
      Sensed (made_of (λ _. tt) (setting.device.sensed state id value))

  -- what comes of an action in a world
  abbrev pub entry_of : World → ℕ → Action → Entry
  entry_of world moment (actions.Open e ask) =
      open_entry (count_of world.log)
      (open_expected (endpoint_of e) setting.eid (timing_of setting e) setting.pace (world.calls e) moment)
  entry_of world moment (actions.Tick e) = Due (due_at world moment e)
  entry_of world moment (actions.Request k) = delivery_entry world.log moment (asked_at world.log k)
  entry_of world moment (actions.Reply j k) = got_entry (got_of_reply setting world k j)
  entry_of world moment (actions.Sense id value) = reading_entry world.log id value
  entry_of world moment actions.Restart = Restarted
  entry_of world moment (actions.Busy k) = got_entry (got_of_busy setting world k)

  -- what came of each of these steps, the oldest first; the newest step stands first
  abbrev pub entries : List Step → List Entry
  entries [] = []
  entries (step ∷ past) = entries past ++ entry_of (world setting past) step.moment step.action ∷ []

  -- a request, and how it stands at its requester
  abbrev pub as_it_stands : World → Asked → EndedRequest
  as_it_stands world r = record {
    asked = r;
    progress = ((requests_of setting world r.source).each r.own).course.progress;
  }

  -- the requests of this log, in the order of their openings, as they stand in a world
  abbrev pub requests_in : World → List Happening → List EndedRequest
  requests_in world [] = []
  requests_in world (logs.Opened r ∷ past) = requests_in world past ++ as_it_stands world r ∷ []
  requests_in world (_ ∷ past) = requests_in world past

  -- all requests
  abbrev pub requests_after : World → List EndedRequest
  requests_after world = requests_in world world.log
