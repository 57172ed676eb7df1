-- The numbers of the source that a definition takes, written a second time.
use Rattle.std.proofs.Common.{◌≡◌, refl}
use Rattle.mctpctl_state.specs.declared.state_file.TheConstants.{CLOCK_STEP}

-- ten milliseconds: the system counts hundredths of a second
step_of_the_clock : CLOCK_STEP ≡ 10
step_of_the_clock = refl
