-- The numbers of the faults of the command line.
use Rattle.std.specs.Prelude.{ℕ}
use Rattle.mctpctl_command_line.specs.declared.choice.ChooseFault.{ChooseFault}
use Rattle.mctpctl_command_line.specs.declared.choice.ChooseFault.TheVariants.{Help, Refused, Memory}

abbrev pub number_of_choose_fault : ChooseFault → ℕ
number_of_choose_fault (Help text) = 1
number_of_choose_fault (Refused text) = 2
number_of_choose_fault (Memory refused) = 3
