-- What becomes of a packet that reaches the board's endpoint: what a responder does, for a platform that gives what the
-- board gives for what the packet asks, if anything; and what becomes of the board.
use Rattle.std.specs.Prelude.{◌≡◌, ℕ, List, [], ◌∷◌, Option, Some, None}
use Rattle.pldm_wire.specs.HandingOn.{hands_on}
use Rattle.pldm_responder.specs.Asked.{Answered, Given, Responded, gives}
use Rattle.pldm_responder.specs.ResponderStates.{IsHeld}
use Rattle.pldm_responder.specs.Looking.{ended_by}
use Rattle.pldm_responder.specs.OpenOrder.{ended_held}
use Rattle.pldm_responder.specs.Performing.{Perform, Respond, Task}
use Rattle.pldm_responder.specs.Steps.{received_held, received_outcome}
use Rattle.pldm_responder.specs.declared.outcome.Outcome.{Outcome}
use Rattle.pldm_endpoint.specs.TwoSteps.{EndpointView, asked_now, held_in, request_at, unasked}
use Rattle.pldm_endpoint.specs.declared.pending_commands.PendingCommand.{PendingCommand}
use Rattle.fan_board.specs.BoardCommands.{board_after, board_answer, board_response}
use Rattle.fan_board.specs.Boards.{BoardState}

-- what the board gives for what it is asked, and the board after that: a response changes nothing
abbrev pub board_given : BoardState → ℕ → Task → Given
board_given board moment (Perform command) = Answered (board_answer board moment command)
board_given board moment (Respond request) = Responded (board_response board request)

abbrev pub board_asked : BoardState → ℕ → Task → BoardState
board_asked board moment (Perform command) = board_after board moment command
board_asked board moment (Respond request) = board

-- it is asked one thing at most; where it is asked nothing, it gives nothing and is as before
abbrev pub answer_given : BoardState → ℕ → List Task → Given
answer_given board moment [] = unasked
answer_given board moment (task ∷ tasks) = board_given board moment task

abbrev pub board_served : BoardState → ℕ → List Task → BoardState
board_served board moment [] = board
board_served board moment (task ∷ tasks) = board_asked board moment task

module _ (old : EndpointView) (board : BoardState) (moment : ℕ) (bytes : List ℕ) where
  abbrev pub given : Given
  given = answer_given board moment (asked_now old.handed_on (held_in old) moment bytes)

  pub record IsServed (new : EndpointView) (board_left : BoardState) (outcome : Outcome) : Type 0 where
    pub returned : outcome ≡ received_outcome (gives (hands_on old.handed_on) given) (held_in old) moment bytes
    pub left :
        IsHeld (held_in new)
        (ended_held (ended_by old.end bytes) (received_held (gives (hands_on old.handed_on) given) (held_in old) moment bytes))
    pub board_is : board_left ≡ board_served board moment (asked_now old.handed_on (held_in old) moment bytes)

-- what the board responds to the request that is pending
abbrev pub board_response_to : BoardState → Option PendingCommand → Given
board_response_to board None = unasked
board_response_to board (Some a) = Responded (board_response board (request_at a.request))
