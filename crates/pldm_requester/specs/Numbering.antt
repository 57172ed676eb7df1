-- Requests are numbered from 0, in the order in which they are opened. The number gives a request its instance ID
-- (DSP0240, "PLDM message fields") and its tag (DSP0236, "MCTP packet fields"), so its message and its packets.
use Rattle.std.specs.Prelude.{ℕ, ◌%◌, true, List}
use Rattle.mctp_packet.specs.Pieces.{written_packets}
use Rattle.mctp_packet.specs.declared.packet.Route.{Route}
use Rattle.mctp_packet.specs.declared.TheConstants.{TAGS}
use Rattle.pldm_wire.specs.Commands.{command_message}
use Rattle.pldm_wire.specs.declared.assigned.TheConstants.{INSTANCE_IDS}
use Rattle.pldm_wire.specs.declared.command.Command.{Command}
use Rattle.pldm_requester.specs.Asks.{Ask, ask_of, ask_message}
use Rattle.pldm_requester.specs.declared.results.Opened.{Opened}

abbrev pub id_of : ℕ → ℕ
id_of number = number % INSTANCE_IDS

abbrev pub tag_of : ℕ → ℕ
tag_of number = number % TAGS

abbrev pub opened_as : ℕ → Opened
opened_as number = record { number = number; id = id_of number; tag = tag_of number }

-- the message that asks so
abbrev pub message_with : ℕ → Ask → List ℕ
message_with number ask = ask_message (id_of number) ask

-- the message that asks for the command
abbrev pub message_of : ℕ → Command → List ℕ
message_of number command = command_message (id_of number) command

-- it goes to the device, which answers on the same tag
abbrev pub route_of : ℕ → ℕ → ℕ → Route
route_of own device number =
    record { destination = device; source = own; owner = true; tag = tag_of number }

-- its packets, which a retry sends again
abbrev pub packets_with : ℕ → ℕ → ℕ → Ask → List (List ℕ)
packets_with own device number ask = written_packets (route_of own device number) (message_with number ask)

abbrev pub packets_of : ℕ → ℕ → ℕ → Command → List (List ℕ)
packets_of own device number command = packets_with own device number (ask_of command)
