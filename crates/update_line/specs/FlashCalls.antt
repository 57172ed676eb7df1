-- The calls of a flash, and which of them a step of the machine is.
use Rattle.std.specs.Prelude.{ℕ, List}
use Rattle.pldm_update.specs.declared.component.Component.{Component}
use Rattle.pldm_update.specs.declared.flash.FlashAction.{FlashAction}
use Rattle.pldm_update.specs.declared.flash.FlashAction.TheVariants as actions

pub data FlashCall : Type 0 where
  -- room is made for an image of this size, for this component
  Begins : (component : Component) → (size : ℕ) → FlashCall
  -- these bytes are stored from this offset on
  Stores : (offset : ℕ) → (bytes : List ℕ) → FlashCall
  Verifies : FlashCall
  Applies : FlashCall
  Activates : FlashCall
  -- the image that was begun last is forgotten
  Abandons : FlashCall
  -- all that is not active is forgotten
  AbandonsUpdate : FlashCall

-- a step for this component, with the bytes of the piece that has just come
abbrev pub call_of : Component → FlashAction → List ℕ → FlashCall
call_of component (actions.Begin size) piece = Begins component size
call_of component (actions.Store offset) piece = Stores offset piece
call_of component actions.Verify piece = Verifies
call_of component actions.Apply piece = Applies
call_of component actions.Activate piece = Activates
call_of component actions.Abandon piece = Abandons
call_of component actions.AbandonUpdate piece = AbandonsUpdate
