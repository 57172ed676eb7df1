use Rattle.std.proofs.Math.Pow.{pow_mono}
use Rattle.std.proofs.lemmas.Nat.{pow_pos}
use Rattle.mctpctl_table.proofs.real32.power_of_two.Goals as goal

pub returns-clause-range : goal.returns-clause-range
returns-clause-range c = (rw c.pow.ensures (pow_pos c.args.power), rw c.pow.ensures (pow_mono c.requires))
