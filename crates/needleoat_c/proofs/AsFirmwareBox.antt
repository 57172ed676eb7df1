-- A handle owns what a box at the same type owns.
use mathlib.Core.List.{[]}
use mir.Syntax.{impl, tnil, dnil}
use denote.Signature.{Slot, plain}
use Rattle.std_alloc.proofs.BoxSteps.Form.{Bx}
use Rattle.std.below.std_heap.specs.contracts.Global as Heap
use Rattle.std.below.std_heap.specs.contracts.GlobalAllocator.TheImpl.{ghosts, dict}
use Rattle.std.below.std_heap.proofs.Global.TheLaws as heap
use Rattle.pldm_update.proofs.firmware_device.FirmwareDevice.TheLaws as machine
use Rattle.needleoat_c.specs.FirmwareHandles.{inside_row}
use Rattle.needleoat_c.specs.contracts.parts.Parts as Parts
use Rattle.needleoat_c.specs.contracts.firmware_handle.FirmwareHandle as Handle

abbrev pub E : Bx
E = record { row = inside_row; laws = machine.the_row_laws; al = record { row = Heap.the_row; laws = heap.the_row_laws; g = ghosts; d = dict; drops = impl [] tnil dnil } }

abbrev pub FromParts : Slot 0
FromParts = plain (λ _. Parts.the_row inside_row Heap.the_row ghosts)

abbrev pub FromHandle : Slot 0
FromHandle = plain (λ _. Handle.the_row)
