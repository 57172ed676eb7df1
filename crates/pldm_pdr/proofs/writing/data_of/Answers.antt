-- The ranges of the fields of each type of data.
use Rattle.pldm_pdr.proofs.writing.data_of.Goals as goal

pub returns-in-NumericSensor-clause-range : goal.returns-in-NumericSensor-clause-range
returns-in-NumericSensor-clause-range c = rw c.in-NumericSensor.is c.push_numeric_sensor.ensures.range

pub returns-in-NumericEffecter-clause-range : goal.returns-in-NumericEffecter-clause-range
returns-in-NumericEffecter-clause-range c = rw c.in-NumericEffecter.is c.push_numeric_effecter.ensures.range

pub returns-in-StateSensor-clause-range : goal.returns-in-StateSensor-clause-range
returns-in-StateSensor-clause-range c = rw c.in-StateSensor.is c.push_state_sensor.ensures.range

pub returns-in-StateEffecter-clause-range : goal.returns-in-StateEffecter-clause-range
returns-in-StateEffecter-clause-range c = rw c.in-StateEffecter.is c.push_state_effecter.ensures.range

pub returns-in-SensorNames-clause-range : goal.returns-in-SensorNames-clause-range
returns-in-SensorNames-clause-range c = rw c.in-SensorNames.is c.push_sensor_names.ensures.range

pub returns-in-EffecterNames-clause-range : goal.returns-in-EffecterNames-clause-range
returns-in-EffecterNames-clause-range c = rw c.in-EffecterNames.is c.push_effecter_names.ensures.range

pub returns-in-EntityNames-clause-range : goal.returns-in-EntityNames-clause-range
returns-in-EntityNames-clause-range c = rw c.in-EntityNames.is c.push_entity_names.ensures.range
