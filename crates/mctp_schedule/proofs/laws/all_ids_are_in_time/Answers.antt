-- The law is proved in AllIdsInTime and SameWorlds.
use Rattle.pldm_responder.proofs.NoIdFallsOut.{all_ids_perform_alike}
use Rattle.mctp_schedule.proofs.AllIdsInTime.{all_ids_are_in_time}
use Rattle.mctp_schedule.proofs.SameWorlds.{all_ids_are_no_window}
use Rattle.mctp_schedule.proofs.laws.all_ids_are_in_time.Goals as goal

pub returns : goal.returns
returns g c = record {
  logs = all_ids_are_in_time;
  schedules = λ setting. all_ids_are_no_window setting (all_ids_perform_alike setting.device);
}
