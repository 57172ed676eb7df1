-- The lemma of the responder's crate, where this crate's tactics find it.
use Rattle.std.proofs.Common.{◌≡◌}
use Rattle.pldm_responder.specs.ResponderStates.{ResponderState, IsHeld}
use Rattle.pldm_responder.proofs.SameHeld as responder

pub same_held : {S : Type 0} {new held : ResponderState S} → IsHeld new held → new ≡ held
same_held same = responder.same_held same
