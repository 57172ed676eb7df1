-- Which part of a record a GetPDR answer carries (DSP0248, "GetPDR command", transferFlag).
use Rattle.std.specs.Prelude.{ℕ, ◌==◌, Bool, true, false, Option, Some, None, if◌then◌else◌}
use Rattle.pldm_wire.specs.declared.transfer_flag.TransferFlag.{TransferFlag}
use Rattle.pldm_wire.specs.declared.transfer_flag.TransferFlag.TheVariants.{Start, Middle, BaseMiddle, End, StartAndEnd}

-- the number of a flag on the wire
abbrev pub flag_number : TransferFlag → ℕ
flag_number Start = 0x00
flag_number Middle = 0x01
flag_number BaseMiddle = 0x02
flag_number End = 0x04
flag_number StartAndEnd = 0x05

-- the flag of a number on the wire
abbrev pub flag_of : ℕ → Option TransferFlag
flag_of number =
    if number == 0x00 then Some Start
    else if number == 0x01 then Some Middle
    else if number == 0x02 then Some BaseMiddle
    else if number == 0x04 then Some End
    else if number == 0x05 then Some StartAndEnd
    else None

-- the last of several parts
abbrev pub is_end : TransferFlag → Bool
is_end Start = false
is_end Middle = false
is_end BaseMiddle = false
is_end End = true
is_end StartAndEnd = false
