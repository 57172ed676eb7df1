use Rattle.pldm_endpoint.proofs.RoundRobin.{new_in_turn_is_fresh}
use Rattle.pldm_endpoint.proofs.laws.new_requests_in_turn_are_fresh.Goals as goal

pub returns : goal.returns
returns g c = new_in_turn_is_fresh
