-- A walk ends, and is bounded.
use Rattle.pldm_discovery.proofs.WalksEnd.{walks_end, walks_are_bounded}
use Rattle.pldm_discovery.proofs.laws.a_walk_ends.Goals as goal

pub returns : goal.returns
returns c = record { ends = walks_end; bounded = walks_are_bounded }
