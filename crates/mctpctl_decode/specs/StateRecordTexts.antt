-- The lines of a state sensor and of a state effecter (DSP0248, "State sensor PDR" and "State effecter PDR").
use Rattle.std.specs.Prelude.{ℕ, List, ◌++◌, codes}
use Rattle.std.specs.List.{flat_map}
use Rattle.mctpctl_decode.specs.FieldTexts.{bits_from, word}
use Rattle.mctpctl_decode.specs.MeasureTexts.{entity_text}
use Rattle.mctpctl_decode.specs.RecordFields.{number, record_line, truth}
use Rattle.mctpctl_decode.specs.declared.label.Label.TheVariants.{AuxiliaryNames, Description, Effecter, Init, Semantic}
use Rattle.mctpctl_decode.specs.declared.label.Label.TheVariants.{Sensor, StateSet, Terminus}
use Rattle.pldm_pdr.specs.declared.possible_states.PossibleStates.{PossibleStates}
use Rattle.pldm_pdr.specs.declared.state_effecter.StateEffecter.{StateEffecter}
use Rattle.pldm_pdr.specs.declared.state_sensor.StateSensor.{StateSensor}

-- the state set, and the numbers of its states that are possible
unfoldable pub possible_states_text : PossibleStates → List ℕ
possible_states_text states =
    number StateSet states.state_set ++ word (codes "states") ++ bits_from 0 states.bits.items

abbrev pub possible_states_line : PossibleStates → List ℕ
possible_states_line states = record_line (possible_states_text states)

-- which sensor it is, and what it is of
unfoldable pub sensor_text : StateSensor → List ℕ
sensor_text sensor =
    number Terminus sensor.terminus_handle ++ number Sensor sensor.sensor_id ++ entity_text sensor.entity
    ++ number Init sensor.init ++ truth AuxiliaryNames sensor.has_auxiliary_names

unfoldable pub sensor_lines : StateSensor → List ℕ
sensor_lines sensor = record_line (sensor_text sensor) ++ flat_map possible_states_line sensor.sets.items

-- which effecter it is, and what it sets

unfoldable pub identity_text : StateEffecter → List ℕ
identity_text effecter =
    number Terminus effecter.terminus_handle ++ number Effecter effecter.effecter_id ++ entity_text effecter.entity

unfoldable pub effecter_text : StateEffecter → List ℕ
effecter_text effecter =
    identity_text effecter ++ number Semantic effecter.semantic_id ++ number Init effecter.init
    ++ truth Description effecter.has_description

unfoldable pub effecter_lines : StateEffecter → List ℕ
effecter_lines effecter = record_line (effecter_text effecter) ++ flat_map possible_states_line effecter.sets.items
