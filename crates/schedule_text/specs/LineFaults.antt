-- The numbers and names of the faults of a schedule's line.
use Rattle.std.specs.Prelude.{ℕ, List, codes}
use Rattle.schedule_text.specs.declared.line_fault.LineFaultKind.{LineFaultKind}
use Rattle.schedule_text.specs.declared.line_fault.LineFaultKind.TheVariants.{Words, Number, BackInTime, NoSuchRequester, SameRequester, Memory}

abbrev pub number_of_fault : LineFaultKind → ℕ
number_of_fault Words = 1
number_of_fault Number = 2
number_of_fault BackInTime = 3
number_of_fault NoSuchRequester = 4
number_of_fault SameRequester = 5
number_of_fault (Memory memory) = 6

abbrev pub name_of_fault : LineFaultKind → List ℕ
name_of_fault Words = codes "Words"
name_of_fault Number = codes "Number"
name_of_fault BackInTime = codes "BackInTime"
name_of_fault NoSuchRequester = codes "NoSuchRequester"
name_of_fault SameRequester = codes "SameRequester"
name_of_fault (Memory memory) = codes "Memory"
