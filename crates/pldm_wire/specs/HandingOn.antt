-- Which requests a responding end hands on as bytes, in place of refusing them.
use Rattle.std.specs.Prelude.{Bool, false, ◌&&◌, ◌||◌, not, ◌==◌, is_some, if◌then◌else◌}
use Rattle.mctp_packet.specs.Bits.{is_set}
use Rattle.pldm_wire.specs.CommandNames.{name_of_kind}
use Rattle.pldm_wire.specs.Kinds.{TypeAndCommand}
use Rattle.pldm_wire.specs.declared.assigned.TheConstants.{BASE, PLATFORM}
use Rattle.pldm_wire.specs.declared.pass_through.PassThrough.{PassThrough}

-- none
abbrev pub none_handed_on : PassThrough
none_handed_on = record { pldm_types = 0; unknown_commands = false }

-- of types 0 and 2 the commands that this profile does not read, where they are; of another type each command, where
-- the type's bit is set
abbrev pub hands_on : PassThrough → TypeAndCommand → Bool
hands_on handed kind =
    if kind.pldm_type == BASE || kind.pldm_type == PLATFORM
    then handed.unknown_commands && not (is_some (name_of_kind kind))
    else is_set handed.pldm_types kind.pldm_type
