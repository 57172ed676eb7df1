-- The refusals of an endpoint in a few words, and which of them the want of room is.
use Rattle.std.specs.Prelude.{ℕ, List, codes}
use Rattle.pldm_responder.specs.declared.arriving.RoomRefusal.{RoomRefusal}
use Rattle.pldm_responder.specs.declared.arriving.RoomRefusal.TheVariants as room
use Rattle.pldm_endpoint.specs.declared.step.AnswerRefusal.{AnswerRefusal}
use Rattle.pldm_endpoint.specs.declared.step.AnswerRefusal.TheVariants.{NotPending, OtherCommand, TooLong}
use Rattle.pldm_endpoint.specs.declared.step.ReceiveRefusal.{ReceiveRefusal}
use Rattle.pldm_endpoint.specs.declared.step.ReceiveRefusal.TheVariants.{Performing, BeingPerformed, Full, Sources, OpenMessages, Memory}

abbrev pub name_of : ReceiveRefusal → List ℕ
name_of Performing = codes "another command of its source and instance ID is pending"
name_of BeingPerformed = codes "its command is pending"
name_of Full = codes "too many commands are pending"
name_of Sources = codes "too many sources"
name_of OpenMessages = codes "too many open messages"
name_of (Memory memory) = codes "out of memory"

abbrev pub name_of_answer_refusal : AnswerRefusal → List ℕ
name_of_answer_refusal NotPending = codes "no command is pending under this handle"
name_of_answer_refusal OtherCommand = codes "the answer is to another command"
name_of_answer_refusal TooLong = codes "the data is too long"

abbrev pub of_room : RoomRefusal → ReceiveRefusal
of_room room.Sources = Sources
of_room room.OpenMessages = OpenMessages
of_room (room.Memory memory) = Memory memory
