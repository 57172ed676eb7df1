-- The numbers and names of the faults of a frame on I3C.
use Rattle.std.specs.Prelude.{ℕ, List, codes}
use Rattle.mctp_i2c.specs.declared.i3c.I3cFault.{I3cFault}
use Rattle.mctp_i2c.specs.declared.i3c.I3cFault.TheVariants.{Short, WrongPec}

abbrev pub number_of : I3cFault → ℕ
number_of Short = 1
number_of WrongPec = 2

abbrev pub name_of : I3cFault → List ℕ
name_of Short = codes "Short"
name_of WrongPec = codes "WrongPec"
