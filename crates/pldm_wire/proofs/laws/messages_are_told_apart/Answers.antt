-- A request is read as itself, and so is a response.
use Rattle.pldm_wire.proofs.ReadRequests.{only}
use Rattle.pldm_wire.proofs.ReadResponses.{only as response_only}
use Rattle.pldm_wire.proofs.laws.messages_are_told_apart.Goals as goal

pub returns-clause-reads_back : goal.returns-clause-reads_back
returns-clause-reads_back c = only

pub returns-clause-response_reads_back : goal.returns-clause-response_reads_back
returns-clause-response_reads_back c = response_only
