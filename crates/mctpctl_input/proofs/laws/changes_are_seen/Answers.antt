-- Every reader refuses the changed frame.
use Rattle.mctpctl_input.proofs.ChangesSeen.{i2c_changes, i3c_changes}
use Rattle.mctpctl_input.proofs.laws.changes_are_seen.Goals as goal

pub returns-clause-i2c : goal.returns-clause-i2c
returns-clause-i2c c = i2c_changes c.smbus_changes_are_seen.ensures.bursts c.smbus_changes_are_seen.ensures.two_bits

pub returns-clause-i3c : goal.returns-clause-i3c
returns-clause-i3c c = i3c_changes c.i3c_changes_are_seen.ensures.bursts c.i3c_changes_are_seen.ensures.two_bits
