-- The headline at every pace that suits the device: a requester may use an instance ID again before twice the keeping
-- time has passed, where twice the line's lifetime has, and enough requests since were answered.
use Rattle.std.specs.Prelude.{◌≡◌, ℕ, List, slice_get, option_map}
use Rattle.pldm_wire.specs.declared.restart_policy.RestartPolicy.TheVariants.{All}
use Rattle.pldm_responder.specs.Performing.{performed}
use Rattle.mctp_schedule.specs.Entries.{as_it_stands, entries}
use Rattle.mctp_schedule.specs.FirstArrivals.{order}
use Rattle.mctp_schedule.specs.Headline.{Headline}
use Rattle.mctp_schedule.specs.Logs.{asked_at, reached}
use Rattle.mctp_schedule.specs.PerformedCommands.{commands_performed}
use Rattle.mctp_schedule.specs.RequesterHalf.{IsTimelySchedule}
use Rattle.mctp_schedule.specs.Requests.{Request}
use Rattle.mctp_schedule.specs.Worlds.{BothEnds, world}
use Rattle.mctp_schedule.specs.Actions.{Step}

-- these are the requests that were opened, by their numbers, each as it stands
abbrev pub AreTheRequests : {S : Type 0} → BothEnds S → List Step → List Request → Type 0
AreTheRequests setting steps requests =
    (k : ℕ)
    → slice_get requests k
    ≡ option_map (as_it_stands setting (world setting steps)) (asked_at (world setting steps).log k)

-- over a timely schedule what both ends do is the headline
abbrev pub HeadlineAtEveryPace : {S : Type 0} → BothEnds S → Type 0
HeadlineAtEveryPace {S} setting =
    (steps : List Step) (requests : List Request)
    → IsTimelySchedule setting steps → AreTheRequests setting steps requests
    → Headline setting steps (entries setting steps) requests
    (order S setting.window setting.keep (world setting steps).log)
    (performed setting.device All setting.window setting.keep setting.start (reached (world setting steps).log))
    (λ commands. commands ≡ commands_performed S setting.window setting.keep (world setting steps).log)
