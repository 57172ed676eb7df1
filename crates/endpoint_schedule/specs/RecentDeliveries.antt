-- A request is delivered before its instance ID is used again.
use Rattle.std.specs.Prelude.{◌≡◌, ℕ, ◌+◌, ◌≤◌, List, Some}
use Rattle.pldm_wire.specs.declared.assigned.TheConstants.{INSTANCE_IDS}
use Rattle.mctp_schedule.specs.Logs.{Asked, asked_at}
use Rattle.mctp_schedule.specs.RequesterHalf.{IsTimelySchedule}
use Rattle.mctp_schedule.specs.Worlds.{BothEnds, IsTimelyAction, requests_of, time_now, world}
use Rattle.mctp_schedule.specs.Actions.{Request}
use Rattle.mctp_schedule.specs.Actions.{Step}

-- over a timely schedule a request comes while its requester opened at most 31 after it
abbrev pub ComesWhileRecent : {S : Type 0} → BothEnds S → Type 0
ComesWhileRecent setting =
    (past : List Step) (moment k : ℕ) (r : Asked)
    → IsTimelySchedule setting past → time_now past ≤ moment
    → IsTimelyAction setting (world setting past) moment (Request k)
    → asked_at (world setting past).log k ≡ Some r
    → (requests_of setting (world setting past) r.source).count ≤ r.own + INSTANCE_IDS
