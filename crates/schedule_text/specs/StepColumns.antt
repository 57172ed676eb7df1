-- How the steps of a schedule are stored: a moment and a mark for each step, and a column for each kind of thing that
-- marks leave out.
use Rattle.std.specs.Prelude.{◌≡◌, ℕ, List, [], ◌∷◌, map}
use Rattle.std.specs.List.{flat_map}
use Rattle.pldm_wire.specs.declared.command.Command.{Command}
use Rattle.schedule_text.specs.declared.steps.Mark.{Mark}
use Rattle.schedule_text.specs.declared.steps.Mark.TheVariants as marks
use Rattle.schedule_text.specs.declared.steps.Reading.{Reading}
use Rattle.schedule_text.specs.declared.step.Action.{Action}
use Rattle.schedule_text.specs.declared.step.Action.TheVariants.{Open, Tick, Request, Reply, Sense, Restart, Busy}
use Rattle.schedule_text.specs.declared.step.ActionRef.{ActionRef}
use Rattle.schedule_text.specs.declared.step.ActionRef.TheVariants as refs
use Rattle.schedule_text.specs.declared.step.Step.{Step}
use Rattle.schedule_text.specs.declared.step.StepRef.{StepRef}

-- an action that is borrowed, as the action
abbrev pub borrowed_action : ActionRef → Action
borrowed_action (refs.Open requester command) = Open requester command.now
borrowed_action (refs.Tick requester) = Tick requester
borrowed_action (refs.Request number) = Request number
borrowed_action (refs.Reply packet number) = Reply packet number
borrowed_action (refs.Sense sensor value) = Sense sensor value
borrowed_action refs.Restart = Restart
borrowed_action (refs.Busy number) = Busy number

-- a step that is borrowed, as the step
abbrev pub borrowed_step : StepRef → Step
borrowed_step step = record { moment = step.moment; action = borrowed_action step.action }

-- the mark of an action, and what of it stands in a column
abbrev pub mark_of : Action → Mark
mark_of (Open requester command) = marks.Open requester
mark_of (Tick requester) = marks.Tick requester
mark_of (Request number) = marks.Request
mark_of (Reply packet number) = marks.Reply packet
mark_of (Sense sensor value) = marks.Sense
mark_of Restart = marks.Restart
mark_of (Busy number) = marks.Busy

abbrev pub numbers_in_action : Action → List ℕ
numbers_in_action (Request number) = number ∷ []
numbers_in_action (Reply packet number) = number ∷ []
numbers_in_action (Busy number) = number ∷ []
numbers_in_action _ = []

abbrev pub readings_in_action : Action → List Reading
readings_in_action (Sense sensor value) = record { sensor = sensor; value = value } ∷ []
readings_in_action _ = []

abbrev pub commands_in_action : Action → List Command
commands_in_action (Open requester command) = command ∷ []
commands_in_action _ = []

-- the same of a step
abbrev pub moment_of_step : Step → ℕ
moment_of_step step = step.moment

abbrev pub mark_of_step : Step → Mark
mark_of_step step = mark_of step.action

abbrev pub numbers_in_step : Step → List ℕ
numbers_in_step step = numbers_in_action step.action

abbrev pub readings_in_step : Step → List Reading
readings_in_step step = readings_in_action step.action

abbrev pub commands_in_step : Step → List Command
commands_in_step step = commands_in_action step.action

abbrev pub at : ℕ → Action → Step
at moment action = record { moment = moment; action = action }

-- the steps of these moments, marks and columns: each moment and mark with the first of the column that the mark needs,
-- then the rest. A mark whose column is at its end would end them too
abbrev pub spelled : List ℕ → List Mark → List ℕ → List Reading → List Command → List Step
spelled (moment ∷ moments) (marks.Open requester ∷ rest) numbers readings (command ∷ commands) =
    at moment (Open requester command) ∷ spelled moments rest numbers readings commands
spelled (moment ∷ moments) (marks.Tick requester ∷ rest) numbers readings commands =
    at moment (Tick requester) ∷ spelled moments rest numbers readings commands
spelled (moment ∷ moments) (marks.Request ∷ rest) (number ∷ numbers) readings commands =
    at moment (Request number) ∷ spelled moments rest numbers readings commands
spelled (moment ∷ moments) (marks.Reply packet ∷ rest) (number ∷ numbers) readings commands =
    at moment (Reply packet number) ∷ spelled moments rest numbers readings commands
spelled (moment ∷ moments) (marks.Sense ∷ rest) numbers (reading ∷ readings) commands =
    at moment (Sense reading.sensor reading.value) ∷ spelled moments rest numbers readings commands
spelled (moment ∷ moments) (marks.Restart ∷ rest) numbers readings commands =
    at moment Restart ∷ spelled moments rest numbers readings commands
spelled (moment ∷ moments) (marks.Busy ∷ rest) (number ∷ numbers) readings commands =
    at moment (Busy number) ∷ spelled moments rest numbers readings commands
spelled _ _ numbers readings commands = []

-- the moments, marks and columns are those of these steps
pub record AreOf
    (steps : List Step) (moments : List ℕ) (marks : List Mark) (numbers : List ℕ) (readings : List Reading)
    (commands : List Command) : Type 0 where
  pub timed : moments ≡ map moment_of_step steps
  pub marked : marks ≡ map mark_of_step steps
  pub numbered : numbers ≡ flat_map numbers_in_step steps
  pub read : readings ≡ flat_map readings_in_step steps
  pub asked : commands ≡ flat_map commands_in_step steps

-- no mark lacks what it needs, and nothing is left over
abbrev pub IsSpelled : List ℕ → List Mark → List ℕ → List Reading → List Command → Type 0
IsSpelled moments marks numbers readings commands =
    AreOf (spelled moments marks numbers readings commands) moments marks numbers readings commands
