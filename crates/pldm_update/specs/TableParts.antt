-- Which part of the component table a PassComponentTable command passes (DSP0267, "PassComponentTable command").
use Rattle.std.specs.Prelude.{ℕ, ◌==◌, Option, Some, None, if◌then◌else◌}
use Rattle.pldm_update.specs.declared.table_part.TablePart.{TablePart}
use Rattle.pldm_update.specs.declared.table_part.TablePart.TheVariants.{Start, Middle, End, StartAndEnd}

abbrev pub part_number : TablePart → ℕ
part_number Start = 1
part_number Middle = 2
part_number End = 4
part_number StartAndEnd = 5

abbrev pub part_of : ℕ → Option TablePart
part_of number =
    if number == 1 then Some Start
    else if number == 2 then Some Middle
    else if number == 4 then Some End
    else if number == 5 then Some StartAndEnd
    else None
