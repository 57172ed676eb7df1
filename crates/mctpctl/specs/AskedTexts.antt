-- What `ask` prints of an answer, and its exit status.
use Rattle.std.specs.Io.KnownBytes.{Appends}
use Rattle.std.specs.Prelude.{◌≡◌, ◌⊎◌, ℕ, Bool, true, false, ◌==◌, List, [], ◌∷◌, ◌++◌, Option, None, Some}
use Rattle.std.specs.List.{FoldsTo}
use Rattle.std.specs.Prelude.{Result, Ok, Err, max, slice_get, take, if◌then◌else◌}
use Rattle.pldm_line.specs.Asked.{AskStops, Asks, Shown}
use Rattle.pldm_line.specs.Ends.{answer_of}
use Rattle.pldm_line.specs.declared.ask_fault.AskFault.{AskFault}
use Rattle.pldm_line.specs.declared.ask_fault.AskFault.TheVariants as faults
use Rattle.pldm_line.specs.declared.asking_line.Ended.{Ended}
use Rattle.mctpctl_decode.specs.AnswersToCommands.{line_to}
use Rattle.mctpctl_decode.specs.DecodedLines.{decoded_line}
use Rattle.mctpctl_texts.specs.ShownLines.{data_text}
use Rattle.pldm_wire.specs.Responses.{Response, response_of}
use Rattle.pldm_wire.specs.declared.assigned.TheConstants.{SUCCESS}
use Rattle.pldm_wire.specs.declared.command.Command.{Command}
use Rattle.mctpctl.specs.declared.asking.AnswerForm.{AnswerForm}
use Rattle.mctpctl.specs.declared.asking.AnswerForm.TheVariants.{Message, WithCommand}
use Rattle.mctpctl.specs.declared.commands.AskedCommand.{AskedCommand}
use Rattle.mctp_packet.specs.declared.reason.Reason.{Reason}
use Rattle.mctpctl.specs.declared.statuses.TheConstants.{DONE, FAILED, REFUSED}

-- as `show --decode` writes it, or its bytes
abbrev pub message_text : Bool → List ℕ → List ℕ
message_text true message = data_text message ++ 10 ∷ []
message_text false message = decoded_line message

-- the text of the answer to a command
abbrev pub text_in : AnswerForm → Command → List ℕ → List ℕ
text_in (Message hex) command = message_text hex
text_in WithCommand command = line_to command

abbrev pub status_of_response : Result Response Reason → ℕ
status_of_response (Ok response) = if response.code == SUCCESS then DONE else REFUSED
status_of_response (Err reason) = REFUSED

abbrev pub status_of_message : List ℕ → ℕ
status_of_message message = status_of_response (response_of message)

-- where none came, too
abbrev pub status_of_answer : Option (List ℕ) → ℕ
status_of_answer (Some message) = status_of_message message
status_of_answer None = FAILED

-- the text of an answer is printed; where there is no answer, nothing is
abbrev pub Prints : (List ℕ → List ℕ) → Option (List ℕ) → Option (List ℕ) → Option (List ℕ) → Type 0
Prints text (Some message) out out1 = Appends out out1 (text message)
Prints text None out out1 = out1 ≡ out

-- a fault of what is beside the line: the answers or the state were not written, nobody reads any more, or there was no
-- memory for a text
abbrev pub IsOfPrinting : AskFault → Type 0
IsOfPrinting fault = (fault ≡ faults.Write) ⊎ (fault ≡ faults.Unread) ⊎ (fault ≡ faults.Memory)

-- a request for the command was opened and has ended, and the text of the answer to that very request was printed
pub record Reports (text : List ℕ → List ℕ) (command : Command) (number : ℕ) (s s1 : Shown) (out out1 : Option (List ℕ))
    : Type 0 where
  pub ended : Ended
  pub asks : Asks command number ended s s1
  pub prints : Prints text (answer_of s1.asking.held number) out out1

-- a command was asked once, and its exit status is that of its own answer
abbrev pub AsksCommand :
    Bool → Command → ℕ → Shown → Shown → Option (List ℕ) → Option (List ℕ) → Type 0
AsksCommand hex command status s s1 out out1 =
    (number : ℕ) × Reports (message_text hex) command number s s1 out out1
    × (status ≡ status_of_answer (answer_of s1.asking.held number))

-- a line on which commands are asked, what was printed, and the greatest exit status so far
pub record AskedSo : Type 0 where
  pub shown : Shown
  pub out : Option (List ℕ)
  pub status : ℕ

abbrev pub asked_so : Shown → Option (List ℕ) → ℕ → AskedSo
asked_so shown out status = record { shown = shown; out = out; status = status }

pub record AsksOne (hex : Bool) (a : AskedSo) (asked : AskedCommand) (b : AskedSo) : Type 0 where
  pub one : ℕ
  pub asks : AsksCommand hex asked.command one a.shown b.shown a.out b.out
  pub greatest : b.status ≡ max a.status one

-- these commands were asked one after another, each once
abbrev pub AsksEach : Bool → List AskedCommand → AskedSo → AskedSo → Type 0
AsksEach hex commands a b = FoldsTo (AsksOne hex) a commands b

-- the commands before one of these were asked; then the line stopped at that one
pub record StopsEach (hex : Bool) (commands : List AskedCommand) (fault : AskFault) (a : AskedSo) (s1 : Shown) : Type 0
  where
    pub place : ℕ
    pub next : AskedCommand
    pub is_next : slice_get commands place ≡ Some next
    pub last : AskedSo
    pub asked : AsksEach hex (take place commands) a last
    pub stops : AskStops next.command fault last.shown s1
