use Rattle.pldm_requester.proofs.Moments.{opened_before, ids_apart, freed_early, spread_out}
use Rattle.pldm_requester.proofs.laws.instance_ids_are_apart.Goals as goal

pub returns-clause-before : goal.returns-clause-before
returns-clause-before c = opened_before

pub returns-clause-apart : goal.returns-clause-apart
returns-clause-apart c = ids_apart

pub returns-clause-early : goal.returns-clause-early
returns-clause-early c = freed_early

pub returns-clause-spread : goal.returns-clause-spread
returns-clause-spread c = spread_out
