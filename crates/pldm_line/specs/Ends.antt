-- How a request ends on a line, and what is asked meanwhile.
use Rattle.std.specs.Prelude.{◌≡◌, ℕ, ◌<◌, false, List, [], ◌∷◌, Option, None, Some, option_map, option_and_then}
use Rattle.pldm_line.specs.Turns.{Asking, Turn, after_turns, is_end}
use Rattle.pldm_line.specs.declared.asking_line.Ended.{Ended}
use Rattle.pldm_line.specs.declared.asking_line.Ended.TheVariants as ended
use Rattle.pldm_requester.specs.Courses.{Progress, Waiting, Answered, GaveUp}
use Rattle.pldm_requester.specs.Steps.{RequesterState, accepts, at_hand}

-- how a request ended: it was answered or given up, and no answer is kept of one that is remembered no longer
abbrev pub ended_by : Option Progress → Option Ended
ended_by None = Some ended.GaveUp
ended_by (Some Waiting) = None
ended_by (Some (Answered message)) = Some ended.Answered
ended_by (Some GaveUp) = Some ended.GaveUp

abbrev pub progress_of : RequesterState → ℕ → Option Progress
progress_of held number = option_map (λ memo. memo.course.progress) (at_hand held number)

abbrev pub ended_of : RequesterState → ℕ → Option Ended
ended_of held number = ended_by (progress_of held number)

abbrev pub message_in : Progress → Option (List ℕ)
message_in Waiting = None
message_in (Answered message) = Some message
message_in GaveUp = None

-- the message that answered a request
abbrev pub answer_of : RequesterState → ℕ → Option (List ℕ)
answer_of held number = option_and_then message_in (progress_of held number)

-- so it was before each of the turns
abbrev pub Before : (Asking → Type 0) → Asking → List Turn → Type 0
Before waits a [] = Unit {0}
Before waits a (turn ∷ turns) = waits (after_turns a turns) × Before waits a turns

-- the line goes on, and the moment is not there yet
abbrev pub IsEarly : ℕ → Asking → Type 0
IsEarly moment a = (is_end a.quiet ≡ false) × (a.held.last < moment)

-- the line goes on, and no request may be opened
abbrev pub IsRefused : Asking → Type 0
IsRefused a = (is_end a.quiet ≡ false) × (accepts a.held a.held.last ≡ false)

-- the line goes on, and the request is open
abbrev pub IsWaiting : ℕ → Asking → Type 0
IsWaiting number a = (is_end a.quiet ≡ false) × (ended_of a.held number ≡ None)
