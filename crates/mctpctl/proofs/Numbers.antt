-- The numbers of the source that a definition takes, written a second time.
use Rattle.std.proofs.Common.{◌≡◌, refl}
use Rattle.mctpctl.specs.declared.settings.TheConstants.{EVERY_MS, KEEP_MS, LIFETIME_MS, MAX_COUNT, MAX_EVERY, TIMEOUT_MS, TRIES}
use Rattle.mctpctl.specs.declared.keeper.TheConstants.{WALK_QUERIES}
use Rattle.mctpctl.specs.declared.statuses.TheConstants.{DONE, FAILED, REFUSED, USAGE}

usual_keeping_time : KEEP_MS ≡ 6000
usual_keeping_time = refl

usual_time_of_a_try : TIMEOUT_MS ≡ 2000
usual_time_of_a_try = refl

usual_tries : TRIES ≡ 3
usual_tries = refl

lifetime_with_a_window : LIFETIME_MS ≡ 250
lifetime_with_a_window = refl

usual_period : EVERY_MS ≡ 1000
usual_period = refl

-- a day
longest_period : MAX_EVERY ≡ 86400000
longest_period = refl

most_periods : MAX_COUNT ≡ 1000000000000
most_periods = refl

control_queries_of_a_walk : WALK_QUERIES ≡ 3
control_queries_of_a_walk = refl

status_of_success : DONE ≡ 0
status_of_success = refl

status_of_a_refused_command : REFUSED ≡ 1
status_of_a_refused_command = refl

status_of_a_wrong_command_line : USAGE ≡ 2
status_of_a_wrong_command_line = refl

status_of_a_failure : FAILED ≡ 3
status_of_a_failure = refl
