-- Answers to the device's own requests, reports of the flash, and time: what each leaves, and which step of the flash it
-- brings.
use Rattle.std.specs.Prelude.{ℕ, ◌+◌, Bool, true, false, ◌&&◌, ◌||◌, ◌==◌, nat_lt, nat_le, Option, Some, None, is_some, if◌then◌else◌}
use Rattle.pldm_wire.specs.declared.assigned.TheConstants.{SUCCESS}
use Rattle.pldm_update.specs.declared.times.TheConstants.{IDLE_TIME, MAX_ATTEMPTS, RETRY_TIME}
use Rattle.pldm_update.specs.declared.flash.FlashAction.{FlashAction}
use Rattle.pldm_update.specs.declared.flash.FlashAction.TheVariants as actions
use Rattle.pldm_update.specs.declared.device_stage.Stage.{Stage}
use Rattle.pldm_update.specs.declared.device_stage.Stage.TheVariants.{Ready, Beginning, Fetching, Storing, Fetched, Failed, Verifying, Verified, Applying, Applied, Activating}
use Rattle.pldm_update.specs.DeviceStages.{is_between, state_of_stage}
use Rattle.pldm_update.specs.Machines.{Machine, is_some_number, piece_length, wish, with_step}
use Rattle.pldm_update.specs.DeviceCommands.{between, closed}

-- what a call leaves, and the action of the step that it hands out
pub record Outcome : Type 0 where
  pub machine : Machine
  pub action : Option FlashAction

abbrev pub only : Machine → Outcome
only m = record { machine = m; action = None }

-- a step is handed out
abbrev pub hands : Machine → FlashAction → Outcome
hands m action = record { machine = with_step m; action = Some action }

-- the request that is wished for is open, under this number
abbrev pub opened : Machine → ℕ → ℕ → Machine
opened m number now = if is_some (wish m now) then record m { asked = Some number } else m

-- the transfer is over, and its image is forgotten
abbrev pub given_up_transfer : Machine → Outcome
given_up_transfer m = hands (between Ready m) actions.Abandon

-- the request was not answered as it has to be: it is asked for again, not before a moment, or the transfer is given up
abbrev pub tried : Machine → ℕ → Outcome
tried m rest =
    if nat_lt (m.attempts + 1) MAX_ATTEMPTS then only (record m { attempts = m.attempts + 1; rest = rest })
    else given_up_transfer m

-- the piece that was asked for is stored at its offset
abbrev pub stores : Machine → ℕ → Outcome
stores m bytes = hands (record m { stage = Storing bytes }) (actions.Store m.stored)

-- a piece is taken where it is as long as it was asked for
abbrev pub taken_piece : Machine → Bool → ℕ → Outcome
taken_piece m success bytes = if success && (bytes == piece_length m) then stores m bytes else tried m (m.heard + RETRY_TIME)

-- the flash has to do the next thing
abbrev pub went_on : Machine → Stage → Machine
went_on m stage = with_step (record m { stage = stage; previous = state_of_stage m.stage; attempts = 0 })

-- an answer to what was asked at a stage: its completion code, and how many bytes of data it has
abbrev pub answered_at : Stage → Machine → ℕ → ℕ → Outcome
answered_at Fetching m code bytes = taken_piece m (code == SUCCESS) bytes
answered_at Fetched m code bytes =
    if code == SUCCESS then record { machine = went_on m Verifying; action = Some actions.Verify } else tried m (m.heard + RETRY_TIME)
answered_at Failed m code bytes = given_up_transfer m
answered_at (Verified true) m code bytes =
    if code == SUCCESS then record { machine = went_on m Applying; action = Some actions.Apply } else tried m (m.heard + RETRY_TIME)
answered_at (Verified false) m code bytes = given_up_transfer m
answered_at (Applied done) m code bytes =
    if code == SUCCESS then only (record (between Ready m) { is_applied = m.is_applied || done }) else tried m (m.heard + RETRY_TIME)
answered_at _ m code bytes = only m

-- an answer counts where it is to the request that is open
abbrev pub answered : Machine → ℕ → ℕ → ℕ → ℕ → Outcome
answered m number now code bytes =
    if is_some_number m.asked number
    then answered_at m.stage (record m { asked = None; heard = now }) code bytes
    else only m

-- so does its being given up
abbrev pub given_up : Machine → ℕ → Outcome
given_up m number =
    if is_some_number m.asked number then tried (record m { asked = None }) 0 else only m

-- a piece of so many bytes is stored
abbrev pub kept : Machine → ℕ → Machine
kept m bytes = record m {
  stage = if m.stored + bytes == m.size then Fetched else Fetching;
  stored = m.stored + bytes;
  attempts = 0;
}

-- the flash did what it was to do, or not
abbrev pub done_at : Stage → Machine → Bool → Machine
done_at Beginning m well = record m { stage = if well then Fetching else Failed }
done_at (Storing bytes) m well = if well then kept m bytes else record m { stage = Failed }
done_at Verifying m well = record m { stage = Verified well }
done_at Applying m well = record m { stage = Applied well }
done_at Activating m well = closed m
done_at _ m well = m

-- a report counts where it is of the last step
abbrev pub done : Machine → ℕ → Bool → Machine
done m number well = if number == m.latest then done_at m.stage m well else m

-- where the agent has the next move and was silent for too long, the update ends
abbrev pub ticked : Machine → ℕ → Outcome
ticked m now =
    if is_between m.stage && nat_le (m.heard + IDLE_TIME) now then hands (closed m) actions.AbandonUpdate else only m
