-- What a responder makes of the bytes of a packet. `performing` holds of a platform, commands, and the platform once
-- they were performed.
use Rattle.std.specs.Prelude.{◌≡◌, ℕ, Bool, true, List, []}
use Rattle.pldm_wire.specs.declared.command.Command.{Command}
use Rattle.pldm_responder.specs.Ends.{AreSameRows}
use Rattle.pldm_responder.specs.Fitting.{ReceivedFits}
use Rattle.pldm_responder.specs.ResponderStates.{IsHeld}
use Rattle.pldm_responder.specs.Needs.{NeedsMemory}
use Rattle.pldm_responder.specs.Performing.{Rules}
use Rattle.pldm_responder.specs.Rooms.{AreRowsAfter, ArrivalLacksRow}
use Rattle.pldm_responder.specs.ResponderViews.{ResponderView, held_of}
use Rattle.pldm_responder.specs.Steps.{received_arrival, received_commands, received_held, received_outcome}
use Rattle.pldm_responder.specs.declared.outcome.Outcome.{Outcome}

module _ {P S : Type 0} (performing : P → List Command → P → Type 0) (old : ResponderView P S) (moment : ℕ) (bytes : List ℕ)
    (new : ResponderView P S) where
  -- the bytes were received at a moment, over a platform of these rules
  pub record HasReceived (device : Rules S) (outcome : Outcome) : Type 0 where
    -- what becomes of them
    pub outcome_is : outcome ≡ received_outcome device (held_of old) moment bytes
    -- what is held then
    pub held : IsHeld (held_of new) (received_held device (held_of old) moment bytes)
    -- what the platform performed: the command of a fresh request, and else nothing
    pub performed : performing old.platform (received_commands (held_of old) moment bytes) new.platform
    -- the answer to a request that was performed fits a message
    pub fits : ReceivedFits device (held_of old) moment bytes
    -- the sources with room for answers
    pub room : AreRowsAfter (held_of old) old.end.rows (received_arrival (held_of old) moment bytes) new.end.rows
    pub bounds : new.end.bounds ≡ old.end.bounds

  -- memory was refused for them, or a bound would be passed, and all is as before
  pub record IsRefusedMemory (steady : Bool) : Type 0 where
    pub needs : NeedsMemory (held_of old) steady moment bytes
    pub lacks_row : steady ≡ true → ArrivalLacksRow old.end.rows (received_arrival (held_of old) moment bytes)
    pub held : IsHeld (held_of new) (held_of old)
    pub none_performed : performing old.platform [] new.platform
    pub room : AreSameRows new.end.rows old.end.rows
    pub bounds : new.end.bounds ≡ old.end.bounds
