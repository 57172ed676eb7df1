-- What a device that takes updates does with its machine and its flash.
use Rattle.std.specs.Prelude.{◌≡◌, ◌⊎◌, ℕ, Bool, List, [], length, Option, Some, None}
use Rattle.pldm_update.specs.DeviceAnswers.{Outcome, answered, done}
use Rattle.pldm_update.specs.Machines.{Machine}
use Rattle.pldm_update.specs.Receiving.{received}
use Rattle.pldm_update.specs.declared.command.UpdateCommand.{UpdateCommand}
use Rattle.pldm_update.specs.declared.component.Component.{Component}
use Rattle.pldm_update.specs.declared.flash.FlashAction.{FlashAction}
use Rattle.pldm_wire.specs.Responses.{Response}
use Rattle.pldm_terminus.specs.Termini.{TerminusView}
use Rattle.update_line.specs.FlashCalls.{FlashCall, call_of}
use Rattle.update_line.specs.OwnAnswers.{response_in}

-- `acted` says what a call of the flash, which went well or not, makes of it; the device has this component
module _ {F : Type 0} (acted : F → FlashCall → Bool → F → Type 0) (component : Component) where
  -- what comes of a call of the machine is done by the flash, with this piece, and reported as it went; where nothing
  -- comes of it, the flash is as before
  abbrev pub IsDone : (piece : List ℕ) (before after : F) (left : Machine) → Machine → Option FlashAction → Type 0
  IsDone piece before after left m None = (left ≡ m) × (after ≡ before)
  IsDone piece before after left m (Some action) =
      (well : Bool) × acted before (call_of component action piece) well after × (left ≡ done m m.latest well)

  abbrev pub Does : (piece : List ℕ) (before after : F) (left : Machine) → Outcome → Type 0
  Does piece before after left outcome = IsDone piece before after left outcome.machine outcome.action

  -- nothing comes of a command at the machine, or it is taken
  abbrev pub TakesCommand : (source now : ℕ) (before after : F) (old new : Machine) → UpdateCommand → Type 0
  TakesCommand source now before after old new command =
      ((new ≡ old) × (after ≡ before))
      ⊎ ((room : Option ℕ) × Does [] before after new (received old source now room command))

  -- nothing comes of a packet at the machine; or a command is taken; or an answer to a request of the device, which is
  -- the one that its requester has as the answer to that very request, and whose bytes are those that are stored
  abbrev pub Takes : (now : ℕ) (end : TerminusView) (before after : F) (old new : Machine) → Type 0
  Takes now end before after old new =
      ((new ≡ old) × (after ≡ before))
      ⊎ ((source : ℕ) × (command : UpdateCommand) × TakesCommand source now before after old new command)
      ⊎ ((number : ℕ) × (response : Response) × (response_in end.asking.requester number ≡ Some response)
      × Does response.rest before after new (answered old number now response.code (length response.rest)))
