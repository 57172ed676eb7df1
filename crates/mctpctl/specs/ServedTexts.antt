-- What the text of a served description says: the device, and then what control messages find.
use Rattle.std.specs.Prelude.{ℕ, List, Result, Ok, Err}
use Rattle.mctpctl_engines.specs.DescriptionLines.{begun}
use Rattle.mctpctl_input.specs.declared.faults.EngineFault.{EngineFault}
use Rattle.mctpctl_input.specs.declared.faults.EngineFault.TheVariants.{Device}
use Rattle.pldm_device.specs.ControlTables.{control_of}
use Rattle.pldm_device.specs.declared.control_table.ControlTable.{ControlTable}
use Rattle.pldm_device.specs.declared.description.Description.{Description}
use Rattle.pldm_device.specs.declared.description_fault.FileFault.{FileFault}

abbrev pub with_table : Description → Result ControlTable FileFault → Result (Description × ControlTable) EngineFault
with_table description (Ok table) = Ok (description, table)
with_table description (Err fault) = Err (Device fault)

abbrev pub with_control : List ℕ → Result Description EngineFault → Result (Description × ControlTable) EngineFault
with_control text (Ok description) = with_table description (control_of text)
with_control text (Err fault) = Err fault

-- a fault of the device comes before one of the table
abbrev pub served_of : List ℕ → Result (Description × ControlTable) EngineFault
served_of text = with_control text (begun text)
