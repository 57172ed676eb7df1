-- Both ends over schedules that are written out, computed: endpoint 8 asks a light at endpoint 9, which keeps answers
-- for a second. The newest step stands first.
use Rattle.std.proofs.Common.{◌≡◌, ℕ, ℤ, pos, List, [], ◌∷◌, None, true, refl}
use Rattle.pldm_wire.specs.CommandReading.{command_of}
use Rattle.pldm_wire.specs.Numbers.{sized}
use Rattle.pldm_wire.specs.Requests.{request_of}
use Rattle.pldm_wire.specs.Responses.{response_of}
use Rattle.pldm_wire.specs.declared.size.Size.TheVariants.{Uint8}
use Rattle.pldm_wire.specs.declared.command.Command.{Command}
use Rattle.pldm_wire.specs.declared.command.Command.TheVariants.{GetTid, GetPdr, SetNumericEffecterValue}
use Rattle.pldm_responder.proofs.WorkedLight.{light_answer, light_after, light_sensed}
use Rattle.pldm_responder.specs.Performing.{rules_of}
use Rattle.pldm_requester.specs.Pacing.{at_default}
use Rattle.pldm_requester.specs.Courses.{Progress, Waiting, Answered, GaveUp}
use Rattle.mctp_schedule.specs.FirstArrivals.{order}
use Rattle.mctp_schedule.specs.Logs.{count_of}
use Rattle.mctp_schedule.specs.OncePerformed.{once}
use Rattle.mctp_schedule.specs.PerformedCommands.{commands_once, commands_performed}
use Rattle.mctp_schedule.specs.Worlds.{BothEnds, busy_packet, is_timely, reply_packet, requests_of, world}
use Rattle.mctp_schedule.specs.Actions.{Action}
use Rattle.mctp_schedule.specs.Actions.{open_for, Tick, Request, Reply, Restart, Busy}
use Rattle.mctp_schedule.specs.Actions.{Step}

abbrev at : ℕ → Action → Step
at moment action = record { moment = moment; action = action }

abbrev setting : BothEnds ℤ
setting = record {
  device = rules_of light_answer light_after light_sensed;
  start = pos 10;
  eid = 9;
  keep = 1000;
  window = 32;
  requesters = record { eid = 8; timeout = 200; tries = 5 } ∷ [];
  pace = at_default 1000;
}

abbrev set_40 : Action
set_40 = open_for 8 (SetNumericEffecterValue 1 (sized Uint8 (pos 40)))

abbrev progress : List Step → Progress
progress steps = ((requests_of setting (world setting steps) 8).each 0).course.progress

abbrev performed_in : List Step → List ℕ
performed_in steps = order ℤ 32 1000 (world setting steps).log

abbrev level : List Step → ℤ
level steps = once (setting.device) 1000 (pos 10) (world setting steps).log

-- the commands that the platform performs, the newest first, and those of the first arrivals
abbrev commands_in : List Step → List Command
commands_in steps = commands_performed ℤ 32 1000 (world setting steps).log

abbrev first_commands : List Step → List Command
first_commands steps = commands_once ℤ 1000 (world setting steps).log

-- a request is sent again, and its answer comes
abbrev a_retry : List Step
a_retry = at 210 (Reply 0 0) ∷ at 200 (Request 0) ∷ at 200 (Tick 8) ∷ at 0 (Request 0) ∷ at 0 set_40 ∷ []

retry_is_answered : progress a_retry ≡ Answered (1 ∷ 0 ∷ 2 ∷ 49 ∷ 0 ∷ [])
unfolding request_of command_of response_of
retry_is_answered = refl

retry_is_performed_once : performed_in a_retry ≡ 0 ∷ []
unfolding request_of command_of response_of
retry_is_performed_once = refl

retry_sets : level a_retry ≡ pos 40
unfolding request_of command_of response_of
retry_sets = refl

retry_is_timely : is_timely setting a_retry ≡ true
unfolding request_of command_of response_of
retry_is_timely = refl

-- a restart after a request was performed: its copy gets the busy answer, which its requester does not take; the latest
-- reply still comes
abbrev after_restart : List Step
after_restart =
    at 210 (Busy 0) ∷ at 200 (Request 0) ∷ at 200 (Tick 8) ∷ at 100 Restart ∷ at 0 (Request 0) ∷ at 0 set_40 ∷ []

busy_answer_is_not_taken : progress after_restart ≡ Waiting
unfolding request_of command_of response_of
busy_answer_is_not_taken = refl

reply_after_it_is_taken : progress (at 220 (Reply 0 0) ∷ after_restart) ≡ Answered (1 ∷ 0 ∷ 2 ∷ 49 ∷ 0 ∷ [])
unfolding request_of command_of response_of
reply_after_it_is_taken = refl

not_performed_again : performed_in (at 220 (Reply 0 0) ∷ after_restart) ≡ 0 ∷ []
unfolding request_of command_of response_of
not_performed_again = refl

restart_is_timely : is_timely setting (at 220 (Reply 0 0) ∷ after_restart) ≡ true
unfolding request_of command_of response_of
restart_is_timely = refl

-- a restart before: no busy answer was given at 500; the request is performed at 1000
abbrev busy_first : List Step
busy_first = at 999 (Request 0) ∷ at 500 (Request 0) ∷ at 500 (Busy 0) ∷ at 500 set_40 ∷ at 0 Restart ∷ []

nothing_given_yet : busy_packet setting (world setting (at 500 set_40 ∷ at 0 Restart ∷ [])) 0 ≡ None
unfolding request_of command_of response_of
nothing_given_yet = refl

none_performed : performed_in busy_first ≡ []
unfolding request_of command_of response_of
none_performed = refl

no_reply_yet : reply_packet setting (world setting busy_first) 0 0 ≡ None
unfolding request_of command_of response_of
no_reply_yet = refl

performed_later : performed_in (at 1010 (Reply 0 0) ∷ at 1000 (Request 0) ∷ busy_first) ≡ 0 ∷ []
unfolding request_of command_of response_of
performed_later = refl

answered_later : progress (at 1010 (Reply 0 0) ∷ at 1000 (Request 0) ∷ busy_first) ≡ Answered (1 ∷ 0 ∷ 2 ∷ 49 ∷ 0 ∷ [])
unfolding request_of command_of response_of
answered_later = refl

-- given up after five tries of 200 milliseconds
given_up : progress (at 1000 (Tick 8) ∷ at 0 set_40 ∷ []) ≡ GaveUp
given_up = refl

-- an open that is refused opens nothing: no ninth request while the first is open
nine_opens : count_of (world setting (at 0 set_40 ∷ at 0 set_40 ∷ at 0 set_40 ∷ at 0 set_40 ∷ at 0 set_40 ∷ at 0 set_40 ∷ at 0 set_40 ∷ at 0 set_40 ∷ at 0 set_40 ∷ [])).log ≡ 8
nine_opens = refl

-- a copy performs nothing
retry_performs_its_command : commands_in a_retry ≡ SetNumericEffecterValue 1 (sized Uint8 (pos 40)) ∷ []
unfolding request_of command_of response_of
retry_performs_its_command = refl

busy_deliveries_perform_none : commands_in busy_first ≡ []
unfolding request_of command_of response_of
busy_deliveries_perform_none = refl

-- a request that the light refuses and one that only reads are performed too, each once, the later one progress first
abbrev refused_and_read : List Step
refused_and_read =
    at 9 (Request 1) ∷ at 8 (Request 0) ∷ at 7 (Request 1) ∷ at 6 (open_for 8 GetTid) ∷ at 5 (Request 0)
    ∷ at 5 (open_for 8 (GetPdr 0 0 1 1 0)) ∷ []

each_is_performed : commands_in refused_and_read ≡ GetTid ∷ GetPdr 0 0 1 1 0 ∷ []
unfolding request_of command_of response_of
each_is_performed = refl

each_at_its_first_arrival : first_commands refused_and_read ≡ GetTid ∷ GetPdr 0 0 1 1 0 ∷ []
unfolding request_of command_of response_of
each_at_its_first_arrival = refl

-- a copy that comes at the keeping time is performed again; its first arrival is one
abbrev too_late : List Step
too_late = at 1000 (Request 0) ∷ at 0 (Request 0) ∷ at 0 (open_for 8 GetTid) ∷ []

late_copy_is_performed_again : commands_in too_late ≡ GetTid ∷ GetTid ∷ []
unfolding request_of command_of response_of
late_copy_is_performed_again = refl

late_copy_is_no_first_arrival : first_commands too_late ≡ GetTid ∷ []
unfolding request_of command_of response_of
late_copy_is_no_first_arrival = refl
