use Rattle.std.proofs.Common.{rules}
use Rattle.pldm_endpoint.proofs.TasksRead.{asks_response}
use Rattle.pldm_endpoint.proofs.endpoint.task_in.Goals as goal

pub returns-then-has-clause-ok : goal.returns-then-has-clause-ok
returns-then-has-clause-ok c = asks_response c.args.handed_on c.args.request.now.bytes c.read-request.result.now c.read-request.ensures (search rules)
