-- What is read fits.
use Rattle.std.proofs.Common.{arith}
use Rattle.pldm_pdr.proofs.NameRecords.{sensor_names_taken, effecter_names_taken, entity_names_taken}
use Rattle.pldm_pdr.proofs.reading.names_data_in.Goals as goal

pub returns-in_ok-names-in-6-clause-fits : goal.returns-in_ok-names-in-6-clause-fits
returns-in_ok-names-in-6-clause-fits c =
    (sensor_names_taken c.args.bytes.now (λ i. omega (arith, c.type_inv.bytes i)) _ c.in_ok-names-in-6.ensures).1.3

pub returns-in_ok-names-in-13-clause-fits : goal.returns-in_ok-names-in-13-clause-fits
returns-in_ok-names-in-13-clause-fits c =
    (effecter_names_taken c.args.bytes.now (λ i. omega (arith, c.type_inv.bytes i)) _ c.in_ok-names-in-13.ensures).1.3

pub returns-in_ok-names-in-16-clause-fits : goal.returns-in_ok-names-in-16-clause-fits
returns-in_ok-names-in-16-clause-fits c =
    (entity_names_taken c.args.bytes.now (λ i. omega (arith, c.type_inv.bytes i)) _ c.in_ok-names-in-16.ensures).1.2
