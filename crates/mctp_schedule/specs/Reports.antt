-- What a report says of a run: one fact for each of its parts, and the headline where the schedule was timely.
use Rattle.std.specs.Prelude.{◌≡◌, ℕ, List, Bool, true}
use Rattle.pldm_responder.specs.Performing.{performed}
use Rattle.pldm_wire.specs.declared.restart_policy.RestartPolicy.TheVariants.{All}
use Rattle.pldm_wire.specs.declared.command.Command.{Command}
use Rattle.mctp_schedule.specs.Entries.{entries, requests_after}
use Rattle.mctp_schedule.specs.FirstArrivals.{order}
use Rattle.mctp_schedule.specs.Headline.{Headline}
use Rattle.mctp_schedule.specs.Logs.{reached}
use Rattle.mctp_schedule.specs.PerformedCommands.{commands_performed}
use Rattle.mctp_schedule.specs.Requests.{Request}
use Rattle.mctp_schedule.specs.Worlds.{BothEnds, is_timely, world}
use Rattle.mctp_schedule.specs.declared.entry.Entry.{Entry}
use Rattle.mctp_schedule.specs.Actions.{Step}

-- the parts of a report; of the device its state
pub record Parts (S : Type 0) : Type 0 where
  pub entries : List Entry
  pub requests : List Request
  pub order : List ℕ
  pub device : S
  pub timely : Bool

-- the report is that of these steps, the newest first; `has_performed` says of the platform that came in and the one
-- that goes out that these commands were performed between them, and no others
pub record IsReport {S : Type 0}
    (setting : BothEnds S) (steps : List Step) (has_performed : List Command → Type 0) (report : Parts S) : Type 0 where
  -- what came of each step
  pub each_step : report.entries ≡ entries setting steps
  -- each request that was opened, and how it ended
  pub each_request : report.requests ≡ requests_after setting (world setting steps)
  -- the requests that were performed, in their order
  pub in_order : report.order ≡ order S setting.window setting.keep (world setting steps).log
  -- the state that performing them leaves
  pub state : report.device
      ≡ performed setting.device All setting.window setting.keep setting.start (reached (world setting steps).log)
  -- their commands, and no others, were performed on the platform itself
  pub commands : has_performed (commands_performed S setting.window setting.keep (world setting steps).log)
  -- whether the schedule was timely
  pub tested : report.timely ≡ is_timely setting steps
  -- the headline
  pub headline : report.timely ≡ true
      → Headline setting steps report.entries report.requests report.order report.device has_performed
