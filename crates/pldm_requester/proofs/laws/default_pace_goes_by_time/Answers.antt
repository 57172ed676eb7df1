use Rattle.pldm_requester.proofs.Moments.{default_pace_goes_by_time}
use Rattle.pldm_requester.proofs.laws.default_pace_goes_by_time.Goals as goal

pub returns : goal.returns
returns c = default_pace_goes_by_time
