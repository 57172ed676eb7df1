-- Laws of the sizes of messages: each request is one packet, and each answer fits a message.
use Rattle.std.specs.Prelude.{ℕ, ◌<◌, ◌≤◌, length}
use Rattle.mctp_packet.specs.declared.TheConstants.{MAX_MESSAGE_BYTES, BASELINE_UNIT}
use Rattle.pldm_wire.specs.Commands.{IsCommand, command_message}
use Rattle.pldm_wire.specs.Answers.{IsAnswer, answer_message}
use Rattle.pldm_wire.specs.Kinds.{TypeAndCommand}
use Rattle.pldm_wire.specs.declared.command.Command.{Command}
use Rattle.pldm_wire.specs.declared.limits.TheConstants.{MAX_REQUEST_BYTES}
use Rattle.pldm_wire.specs.declared.answer.Answer.{Answer}

-- the message of a command has a header at least, and no more than one packet carries
abbrev pub CommandFitsOnePacket : Type 0
CommandFitsOnePacket =
    (id : ℕ) (command : Command) → IsCommand command
    → (0 < length (command_message id command)) × (length (command_message id command) ≤ BASELINE_UNIT)

-- and no more than that of a command with all eight states
abbrev pub CommandIsShort : Type 0
CommandIsShort =
    (id : ℕ) (command : Command) → IsCommand command → length (command_message id command) ≤ MAX_REQUEST_BYTES

-- the message of an answer has a header at least, and no more bytes than a message may have
abbrev pub AnswerFitsMessage : Type 0
AnswerFitsMessage =
    (id : ℕ) (kind : TypeAndCommand) (answer : Answer) → IsAnswer answer
    → (0 < length (answer_message id kind answer)) × (length (answer_message id kind answer) ≤ MAX_MESSAGE_BYTES)
