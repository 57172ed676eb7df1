-- What a clause reads of a conversation.
use Rattle.std.specs.Prelude.{◌≡◌, ℕ, false, List, Option}
use Rattle.pldm_line.specs.Asked.{Shown, shown}
use Rattle.mctpctl_input.specs.Ports.{has_failed, inner_of}
use Rattle.mctpctl.specs.declared.conversation.Conversation.{Conversation}

-- neither port of its line has failed
abbrev pub IsGoingOn : {C R W O : Type 0} → Conversation C R W O → Type 0
IsGoingOn conversation = (has_failed conversation.reader ≡ false) × (has_failed conversation.writer ≡ false)

-- its line with its reader and writer
abbrev pub shown_in :
    {C R W O : Type 0} → (C → Option (List ℕ)) → (R → Option (List ℕ)) → (W → Option (List ℕ))
    → Conversation C R W O → Shown
shown_in to_come remaining contents conversation =
    shown to_come remaining contents conversation.line conversation.reader conversation.writer

-- what was printed, where that is known
abbrev pub printed_in : {C R W O : Type 0} → (O → Option (List ℕ)) → Conversation C R W O → Option (List ℕ)
printed_in printed conversation = printed (inner_of conversation.out)
