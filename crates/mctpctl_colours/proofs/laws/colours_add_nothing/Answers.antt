-- Without its codes a line in a colour is the line.
use Rattle.mctpctl_colours.proofs.CodesGone.{colours_add_nothing}
use Rattle.mctpctl_colours.proofs.laws.colours_add_nothing.Goals as goal

pub returns : goal.returns
returns c = colours_add_nothing
