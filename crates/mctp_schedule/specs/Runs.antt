-- A run of a device and the requesters of a schedule: what it is about, and the world at its end.
use Rattle.std.specs.Prelude.{ℕ, List, reverse}
use Rattle.pldm_wire.specs.declared.restart_policy.RestartPolicy.TheVariants.{All}
use Rattle.pldm_responder.specs.Performing.{Rules, performed}
use Rattle.pldm_requester.specs.Pacing.{at_default}
use Rattle.mctp_schedule.specs.Logs.{reached}
use Rattle.schedule_text.specs.Schedules.{Spelled}
use Rattle.mctp_schedule.specs.Worlds.{BothEnds, World, world}
use Rattle.mctp_schedule.specs.Actions.{Step, as_steps}

-- a device with these rules and this window, in its first state, at the endpoint `eid`; both ends keep for `keep`
abbrev pub setting_of_run : {S : Type 0} → Rules S → S → (eid keep window : ℕ) → Spelled → BothEnds S
setting_of_run device start eid keep window schedule = record {
  device = device;
  start = start;
  eid = eid;
  keep = keep;
  window = window;
  requesters = schedule.requesters;
  pace = at_default keep;
}

-- the steps of a schedule, which has its oldest one first
abbrev pub newest_first : Spelled → List Step
newest_first schedule = as_steps (reverse schedule.steps)

-- the world after all steps
abbrev pub final_world : {S : Type 0} → BothEnds S → Spelled → World
final_world setting schedule = world setting (newest_first schedule)

-- the responder's state after all steps
abbrev pub final_state : {S : Type 0} → BothEnds S → Spelled → S
final_state setting schedule =
    performed setting.device All setting.window setting.keep setting.start (reached (final_world setting schedule).log)
