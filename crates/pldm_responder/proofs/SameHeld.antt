-- What a responder holds is settled by its parts, and of the kept answers by each of them.
use Rattle.std.proofs.Common.{◌≡◌}
use Rattle.pldm_responder.specs.ResponderStates.{ResponderState, IsHeld}

pub same_held : {S : Type 0} {new held : ResponderState S} → IsHeld new held → new ≡ held
same_held same =
    λ i. record {
      own = same.own i;
      busy = same.busy i;
      window = same.window i;
      keep = same.keep i;
      open_messages = same.open_messages i;
      kept = λ source. same.kept source i;
      state = same.state i;
      serves_from = same.serves_from i;
      last = same.last i;
    }
