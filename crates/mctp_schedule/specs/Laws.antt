-- The log of a timely schedule is timely, and the test of a timely schedule is exact. With a window of all instance IDs
-- what is timely is what is timely with none.
use Rattle.std.specs.Prelude.{◌≡◌, ◌≤◌, ◌↔◌, ℕ, true, List}
use Rattle.pldm_wire.specs.declared.assigned.TheConstants.{INSTANCE_IDS}
use Rattle.mctp_schedule.specs.EachId as each_id
use Rattle.mctp_schedule.specs.Logs.{AreRested, Happening}
use Rattle.mctp_schedule.specs.RequesterHalf.{IsTimelySchedule}
use Rattle.mctp_schedule.specs.Timely.{IsTimelyLog}
use Rattle.mctp_schedule.specs.Worlds.{IsTimely, NeverWentBack, BothEnds, is_timely, world}
use Rattle.mctp_schedule.specs.Actions.{Step}

-- over a timely schedule the log of the link is timely, where the requesters go by the keeping time alone: what the
-- device's half rests on
abbrev pub LogIsTimely : {S : Type 0} → BothEnds S → Type 0
LogIsTimely {S} setting =
    (steps : List Step) → NeverWentBack steps → IsTimely setting steps
    → setting.pace.lifetime ≡ setting.keep → AreRested setting.keep (world setting steps).log
    → IsTimelyLog S setting.window setting.keep setting.pace.lifetime (world setting steps).log

-- and so it is at every pace that suits the device
abbrev pub PacedLogIsTimely : {S : Type 0} → BothEnds S → Type 0
PacedLogIsTimely {S} setting =
    (steps : List Step) → IsTimelySchedule setting steps
    → IsTimelyLog S setting.window setting.keep setting.pace.lifetime (world setting steps).log

-- the test of a timely schedule holds exactly where it is timely
abbrev pub TimelyIsTested : {S : Type 0} → BothEnds S → Type 0
TimelyIsTested setting = (steps : List Step) → (is_timely setting steps ≡ true) ↔ IsTimely setting steps

-- a log is timely where it is with no window
abbrev pub AllIdsAreInTime : Type 0 → Type 0
AllIdsAreInTime S =
    (window keep : ℕ) (log : List Happening) → INSTANCE_IDS ≤ window
    → (IsTimelyLog S window keep keep log ↔ each_id.IsTimelyLog keep log)

-- both ends do the same, and the same schedules are timely
abbrev pub AllIdsAreNoWindow : {S : Type 0} → BothEnds S → Type 0
AllIdsAreNoWindow setting =
    (steps : List Step) → INSTANCE_IDS ≤ setting.window
    → (world setting steps ≡ each_id.world setting steps) × (IsTimely setting steps ↔ each_id.IsTimely setting steps)
