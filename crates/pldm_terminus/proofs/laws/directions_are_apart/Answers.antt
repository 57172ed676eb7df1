use Rattle.pldm_terminus.proofs.DirectionsApart.{asks_nothing, brings_no_answer}
use Rattle.pldm_terminus.proofs.laws.directions_are_apart.Goals as goal

pub returns-clause-asking : goal.returns-clause-asking
returns-clause-asking c = brings_no_answer

pub returns-clause-answering : goal.returns-clause-answering
returns-clause-answering c = asks_nothing
