-- What is read fits.
use Rattle.std.proofs.Common.{arith}
use Rattle.pldm_pdr.proofs.NumericSensors.{numeric_sensor_taken}
use Rattle.pldm_pdr.proofs.StateSensors.{state_sensor_taken}
use Rattle.pldm_pdr.proofs.NumericEffecters.{numeric_effecter_taken}
use Rattle.pldm_pdr.proofs.StateEffecters.{state_effecter_taken}
use Rattle.pldm_pdr.proofs.reading.data_in.Goals as goal

pub returns-in_ok-sensor-in-2-clause-fits : goal.returns-in_ok-sensor-in-2-clause-fits
returns-in_ok-sensor-in-2-clause-fits c =
    (numeric_sensor_taken c.args.bytes.now (λ i. omega (arith, c.type_inv.bytes i)) _ c.in_ok-sensor-in-2.ensures).1.13

pub returns-in_ok-sensor-in-4-clause-fits : goal.returns-in_ok-sensor-in-4-clause-fits
returns-in_ok-sensor-in-4-clause-fits c =
    (state_sensor_taken c.args.bytes.now (λ i. omega (arith, c.type_inv.bytes i)) _ c.in_ok-sensor-in-4.ensures).1.4.1

pub returns-in_ok-effecter-in-9-clause-fits : goal.returns-in_ok-effecter-in-9-clause-fits
returns-in_ok-effecter-in-9-clause-fits c =
    (numeric_effecter_taken c.args.bytes.now (λ i. omega (arith, c.type_inv.bytes i)) _ c.in_ok-effecter-in-9.ensures).1.11

pub returns-in_ok-effecter-in-11-clause-fits : goal.returns-in_ok-effecter-in-11-clause-fits
returns-in_ok-effecter-in-11-clause-fits c =
    (state_effecter_taken c.args.bytes.now (λ i. omega (arith, c.type_inv.bytes i)) _ c.in_ok-effecter-in-11.ensures).1.5.1
