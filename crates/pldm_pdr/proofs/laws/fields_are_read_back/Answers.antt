-- The fields of each type are read again.
use Rattle.pldm_pdr.proofs.TerminusLocators.{terminus_locator_again}
use Rattle.pldm_pdr.proofs.NumericSensors.{numeric_sensor_again}
use Rattle.pldm_pdr.proofs.StateSensors.{state_sensor_again}
use Rattle.pldm_pdr.proofs.NumericEffecters.{numeric_effecter_again}
use Rattle.pldm_pdr.proofs.StateEffecters.{state_effecter_again}
use Rattle.pldm_pdr.proofs.NameRecords.{sensor_names_again, effecter_names_again, entity_names_again}
use Rattle.pldm_pdr.proofs.laws.fields_are_read_back.Goals as goal

pub returns : goal.returns
returns c = record {
  terminus_locator = terminus_locator_again;
  numeric_sensor = numeric_sensor_again;
  state_sensor = state_sensor_again;
  numeric_effecter = numeric_effecter_again;
  state_effecter = state_effecter_again;
  sensor_names = sensor_names_again;
  effecter_names = effecter_names_again;
  entity_names = entity_names_again;
}
