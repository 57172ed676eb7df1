-- What a requester holds is settled by its parts, and of what it remembers by each request.
use Rattle.std.proofs.Common.{◌≡◌}
use Rattle.pldm_requester.specs.Steps.{RequesterState, IsHeld}

pub same_held : {new held : RequesterState} → IsHeld new held → new ≡ held
same_held same =
    λ i. record {
      own = same.own i;
      device = same.device i;
      timing = same.timing i;
      pace = same.pace i;
      count = same.count i;
      remembered = λ number. same.remembered number i;
      open_messages = same.open_messages i;
      last = same.last i;
    }
