-- What a handle owns.
use base.Fml.{Fml, ftrue}
use base.Stored.{Coded}
use denote.RattleType.{RattleType}
use denote.RawPtr.{Ptr}
use Rattle.std.specs.Prelude.{Option, Some, None}
use Rattle.std.specs.Coded.{coded_option}
use Rattle.std.specs.Box.Ownership.{box_owns}
use Rattle.std.specs.Global.{Global}
use Rattle.std.below.std_heap.specs.contracts.GlobalAllocator.TheImpl.{ghosts}
use Rattle.pldm_update.specs.contracts.firmware_device.FirmwareDevice as Machine

abbrev pub inside_row : RattleType
inside_row = Machine.the_row

abbrev pub Inside : Type 0
Inside = inside_row.Denot

abbrev pub coded_inside : Coded (Option Inside)
coded_inside = coded_option inside_row.coded

abbrev pub handle_owns : Global → Ptr → Option Inside → Fml
handle_owns alloc at None = ftrue
handle_owns alloc at (Some inside) = box_owns (ghosts.dealloc_token alloc) inside_row at inside
