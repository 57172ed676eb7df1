-- Values are read back from all of the data.
use Rattle.std.proofs.Common.{refl, arith}
use Rattle.pldm_wire.proofs.FieldsRead.{values_read, values_found, values_written}
use Rattle.pldm_wire.proofs.laws.layouts_are_read_back.Goals as goal

pub returns-clause-reads_back : goal.returns-clause-reads_back
returns-clause-reads_back c = λ layout values bytes h. values_read layout values 0 bytes bytes (omega arith) refl h

pub returns-clause-found : goal.returns-clause-found
returns-clause-found c = λ layout bytes. values_found layout 0 bytes (omega arith)

pub returns-clause-written : goal.returns-clause-written
returns-clause-written c = values_written
