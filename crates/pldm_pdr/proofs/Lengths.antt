-- How many bytes a record's data has at most.
use Rattle.std.proofs.Common.{◌≡◌, ℕ, ℤ, ◌+◌, ◌*◌, ◌≤◌, nat_le, Bool, true, false, List, [], ◌∷◌, ◌++◌, length, arith}
use Rattle.std.proofs.lemmas.List.{length-append}
use Rattle.byteorder.specs.Endian.{little_bytes, low_bytes}
use Rattle.byteorder.specs.Numbers.{length-bytes_low_first}
use Rattle.pldm_wire.specs.Sizes.{size_code, width}
use Rattle.pldm_wire.specs.declared.size.Size.{Size}
use Rattle.pldm_wire.specs.declared.size.Size.TheVariants.{Uint8, Sint8, Uint16, Sint16, Uint32, Sint32}
use Rattle.std.proofs.Common.{w64}
use Rattle.pldm_pdr.specs.declared.limits.TheConstants.{MCTP_EID, EID_BYTES, MAX_DATA_BYTES, MAX_STATE_BYTES, MAX_NAME_BYTES, NO_SHARED_NAMES}
use Rattle.pldm_pdr.specs.declared.entity.Entity.{Entity}
use Rattle.pldm_pdr.specs.declared.units.Units.{Units}
use Rattle.pldm_pdr.specs.declared.conversion.Conversion.{Conversion}
use Rattle.pldm_pdr.specs.declared.locator.TerminusLocator.{TerminusLocator}
use Rattle.pldm_pdr.specs.declared.sensor_range.SensorRange.{SensorRange}
use Rattle.pldm_pdr.specs.declared.numeric_sensor.NumericSensor.{NumericSensor}
use Rattle.pldm_pdr.specs.declared.effecter_range.EffecterRange.{EffecterRange}
use Rattle.pldm_pdr.specs.declared.numeric_effecter.NumericEffecter.{NumericEffecter}
use Rattle.pldm_pdr.specs.declared.possible_states.PossibleStates.{PossibleStates}
use Rattle.pldm_pdr.specs.declared.state_sensor.StateSensor.{StateSensor}
use Rattle.pldm_pdr.specs.declared.state_effecter.StateEffecter.{StateEffecter}
use Rattle.pldm_pdr.specs.declared.data.RecordData.{RecordData}
use Rattle.pldm_pdr.specs.declared.data.RecordData.TheVariants as variants
use Rattle.pldm_pdr.specs.Fields.{byte, signed_byte, flag, sized_bytes}
use Rattle.pldm_pdr.specs.Entities.{entity_bytes}
use Rattle.pldm_pdr.specs.Measures.{units_bytes, conversion_bytes}
use Rattle.pldm_pdr.specs.RangeFormats.{bits_size, format_code}
use Rattle.pldm_pdr.specs.TerminusLocators.{terminus_locator_bytes}
use Rattle.pldm_pdr.specs.NumericSensors.{sensor_range_bytes, numeric_sensor_bytes}
use Rattle.pldm_pdr.specs.NumericEffecters.{effecter_range_bytes, numeric_effecter_bytes}
use Rattle.pldm_pdr.specs.StateSets.{possible_states_bytes, possible_states_fit, sets_bytes, each_fits, composite_bytes, composite_fits}
use Rattle.pldm_pdr.specs.StateSensors.{state_sensor_bytes}
use Rattle.pldm_pdr.specs.StateEffecters.{state_effecter_bytes}
use Rattle.pldm_pdr.specs.Names.{is_all, names_end, all_names_end}
use Rattle.pldm_pdr.specs.Records.{data_bytes, data_fits}
use Rattle.pldm_wire.specs.States.{is_composite}
use Rattle.pldm_wire.specs.declared.limits.TheConstants.{MAX_STATES}
use Rattle.std.proofs.lemmas.Bool.{leb-true}
use Rattle.pldm_pdr.proofs.FittingTests.{split_and}

pub record AtMost (text : List ℕ) (most : ℕ) : Type 0 where
  pub is : length text ≤ most

pub most_next : {x y : List ℕ} {m n : ℕ} → AtMost x m → AtMost y n → AtMost (x ++ y) (m + n)
most_next {x = x} {y = y} p q = record { is = simp (length-append) (omega arith) }

pub byte_most : (b : ℕ) → AtMost (byte b) 1
byte_most b = record { is = omega arith }

pub signed_byte_most : (z : ℤ) → AtMost (signed_byte z) 1
signed_byte_most z = record { is = omega arith }

pub flag_most : (is_set : Bool) → AtMost (flag is_set) 1
flag_most true = record { is = omega arith }
flag_most false = record { is = omega arith }

pub number_most : (n x : ℕ) → AtMost (little_bytes n x) n
number_most n x = record { is = omega (arith, length-bytes_low_first 0 n x) }

four_most : (size : Size) → width size ≤ 4
four_most Uint8 = omega arith
four_most Sint8 = omega arith
four_most Uint16 = omega arith
four_most Sint16 = omega arith
four_most Uint32 = omega arith
four_most Sint32 = omega arith

pub sized_most : (size : Size) (value : ℤ) → AtMost (sized_bytes size value) 4
sized_most size value = record {
  is = omega (arith, four_most size, length-bytes_low_first 0 (width size) (low_bytes w64 (width size) value));
}

pub entity_most : (entity : Entity) → AtMost (entity_bytes entity) 6
entity_most entity = most_next (most_next (number_most 2 entity.entity_type) (number_most 2 entity.instance)) (number_most 2 entity.container_id)

pub units_most : (units : Units) → AtMost (units_bytes units) 7
units_most units = most_next (most_next (most_next (most_next (most_next (most_next (byte_most units.base_unit) (signed_byte_most units.unit_modifier)) (byte_most units.rate_unit)) (byte_most units.base_oem_unit_handle)) (byte_most units.auxiliary_unit)) (signed_byte_most units.auxiliary_unit_modifier)) (byte_most units.auxiliary_rate_unit)

pub conversion_most : (conversion : Conversion) → AtMost (conversion_bytes conversion) 14
conversion_most conversion = most_next (most_next (most_next (most_next (most_next (most_next (flag_most conversion.is_linear) (byte_most (size_code conversion.size))) (number_most 4 conversion.resolution)) (number_most 4 conversion.offset)) (number_most 2 conversion.accuracy)) (byte_most conversion.plus_tolerance)) (byte_most conversion.minus_tolerance)

pub terminus_locator_most : (locator : TerminusLocator) → AtMost (terminus_locator_bytes locator) 9
terminus_locator_most locator = most_next (most_next (most_next (most_next (most_next (most_next (number_most 2 locator.terminus_handle) (flag_most locator.is_valid)) (byte_most locator.tid)) (number_most 2 locator.container_id)) (byte_most MCTP_EID)) (byte_most EID_BYTES)) (byte_most locator.eid)

pub sensor_range_most : (range : SensorRange) → AtMost (sensor_range_bytes range) 38
sensor_range_most range = most_next (most_next (most_next (most_next (most_next (most_next (most_next (most_next (most_next (most_next (byte_most (format_code range.format)) (byte_most range.support)) (sized_most (bits_size range.format) range.nominal)) (sized_most (bits_size range.format) range.normal_max)) (sized_most (bits_size range.format) range.normal_min)) (sized_most (bits_size range.format) range.warning_high)) (sized_most (bits_size range.format) range.warning_low)) (sized_most (bits_size range.format) range.critical_high)) (sized_most (bits_size range.format) range.critical_low)) (sized_most (bits_size range.format) range.fatal_high)) (sized_most (bits_size range.format) range.fatal_low)

pub numeric_sensor_most : (sensor : NumericSensor) → AtMost (numeric_sensor_bytes sensor) 95
numeric_sensor_most sensor = most_next (most_next (most_next (most_next (most_next (most_next (most_next (most_next (most_next (most_next (most_next (most_next (most_next (most_next (most_next (most_next (number_most 2 sensor.terminus_handle) (number_most 2 sensor.sensor_id)) (entity_most sensor.entity)) (byte_most sensor.init)) (flag_most sensor.has_auxiliary_names)) (units_most sensor.units)) (byte_most sensor.rel)) (byte_most sensor.auxiliary_oem_unit_handle)) (conversion_most sensor.conversion)) (sized_most (sensor.conversion.size) sensor.hysteresis)) (byte_most sensor.supported_thresholds)) (byte_most sensor.threshold_and_hysteresis_volatility)) (number_most 4 sensor.state_transition_interval)) (number_most 4 sensor.update_interval)) (sized_most (sensor.conversion.size) sensor.max_readable)) (sized_most (sensor.conversion.size) sensor.min_readable)) (sensor_range_most sensor.range)

pub effecter_range_most : (range : EffecterRange) → AtMost (effecter_range_bytes range) 22
effecter_range_most range = most_next (most_next (most_next (most_next (most_next (most_next (byte_most (format_code range.format)) (byte_most range.support)) (sized_most (bits_size range.format) range.nominal)) (sized_most (bits_size range.format) range.normal_max)) (sized_most (bits_size range.format) range.normal_min)) (sized_most (bits_size range.format) range.rated_max)) (sized_most (bits_size range.format) range.rated_min)

pub numeric_effecter_most : (effecter : NumericEffecter) → AtMost (numeric_effecter_bytes effecter) 74
numeric_effecter_most effecter = most_next (most_next (most_next (most_next (most_next (most_next (most_next (most_next (most_next (most_next (most_next (most_next (most_next (number_most 2 effecter.terminus_handle) (number_most 2 effecter.effecter_id)) (entity_most effecter.entity)) (number_most 2 effecter.semantic_id)) (byte_most effecter.init)) (flag_most effecter.has_auxiliary_names)) (units_most effecter.units)) (byte_most effecter.auxiliary_oem_unit_handle)) (conversion_most effecter.conversion)) (number_most 4 effecter.state_transition_interval)) (number_most 4 effecter.transition_interval)) (sized_most (effecter.conversion.size) effecter.max_settable)) (sized_most (effecter.conversion.size) effecter.min_settable)) (effecter_range_most effecter.range)

possible_states_most : (states : PossibleStates) → possible_states_fit states ≡ true → AtMost (possible_states_bytes states) 35
possible_states_most states fit =
    let few : length states.bits.items ≤ MAX_STATE_BYTES = leb-true _ _ (split_and (nat_le 1 (length states.bits.items)) (nat_le (length states.bits.items) MAX_STATE_BYTES) fit).1 in
    let bits : AtMost states.bits.items 32 = record { is = omega arith } in
    most_next (most_next (number_most 2 states.state_set) (byte_most (length states.bits.items))) bits

sets_most : (sets : List PossibleStates) → each_fits sets ≡ true → length (sets_bytes sets) ≤ 35 * length sets
sets_most [] fit = omega arith
sets_most (states ∷ sets) fit =
    let both = split_and (possible_states_fit states) (each_fits sets) fit in
    let first = (possible_states_most states both.0).is in
    let rest = sets_most sets both.1 in
    omega (arith, length-append (possible_states_bytes states) (sets_bytes sets))

pub composite_most : (sets : List PossibleStates) → composite_fits sets ≡ true → AtMost (composite_bytes sets) 281
composite_most sets fit =
    let both = split_and (is_composite sets) (each_fits sets) fit in
    let few : length sets ≤ MAX_STATES = leb-true _ _ (split_and (nat_le 1 (length sets)) (nat_le (length sets) MAX_STATES) both.0).1 in
    let rest : AtMost (sets_bytes sets) 280 = record { is = omega (arith, sets_most sets both.1) } in
    most_next (byte_most (length sets)) rest

pub state_sensor_most : (sensor : StateSensor) → composite_fits sensor.sets.items ≡ true → AtMost (state_sensor_bytes sensor) 293
state_sensor_most sensor fit =
    most_next (most_next (most_next (most_next (most_next (number_most 2 sensor.terminus_handle) (number_most 2 sensor.sensor_id)) (entity_most sensor.entity)) (byte_most sensor.init)) (flag_most sensor.has_auxiliary_names)) (composite_most sensor.sets.items fit)

pub state_effecter_most : (effecter : StateEffecter) → composite_fits effecter.sets.items ≡ true → AtMost (state_effecter_bytes effecter) 295
state_effecter_most effecter fit =
    most_next (most_next (most_next (most_next (most_next (most_next (number_most 2 effecter.terminus_handle) (number_most 2 effecter.effecter_id)) (entity_most effecter.entity)) (number_most 2 effecter.semantic_id)) (byte_most effecter.init)) (flag_most effecter.has_description)) (composite_most effecter.sets.items fit)

-- the data of each type
pub data_most : (contents : RecordData) → data_fits contents ≡ true → length (data_bytes contents) ≤ MAX_DATA_BYTES
data_most (variants.TerminusLocator locator) fit = omega (arith, (terminus_locator_most locator).is)
data_most (variants.NumericSensor sensor) fit = omega (arith, (numeric_sensor_most sensor).is)
data_most (variants.StateSensor sensor) fit = omega (arith, (state_sensor_most sensor fit).is)
data_most (variants.NumericEffecter effecter) fit = omega (arith, (numeric_effecter_most effecter).is)
data_most (variants.StateEffecter effecter) fit = omega (arith, (state_effecter_most effecter fit).is)
data_most (variants.SensorNames names) fit =
    let few : length names.names.items ≤ MAX_NAME_BYTES = leb-true _ _ (split_and (is_all (all_names_end names.names.items)) (nat_le (length names.names.items) MAX_NAME_BYTES) fit).1 in
    omega (arith, length-append (little_bytes 2 names.terminus_handle ++ little_bytes 2 names.sensor_id) names.names.items)
data_most (variants.EffecterNames names) fit =
    let few : length names.names.items ≤ MAX_NAME_BYTES = leb-true _ _ (split_and (is_all (all_names_end names.names.items)) (nat_le (length names.names.items) MAX_NAME_BYTES) fit).1 in
    omega (arith, length-append (little_bytes 2 names.terminus_handle ++ little_bytes 2 names.effecter_id) names.names.items)
data_most (variants.EntityNames names) fit =
    let few : length names.names.items ≤ MAX_NAME_BYTES = leb-true _ _ (split_and (is_all (names_end names.names.items)) (nat_le (length names.names.items) MAX_NAME_BYTES) fit).1 in
    omega (arith, length-append (entity_bytes names.entity ++ byte NO_SHARED_NAMES) names.names.items)
