-- The numeric sensor: what is read was taken, and is read again.
use Rattle.std.proofs.Common.{◌≡◌, ℕ, List, [], ◌∷◌, ◌++◌, Ok, refl, ap, subst, ◌∙◌}
use Rattle.byteorder.specs.Endian.{little_bytes}
use Rattle.pldm_wire.specs.Numbers.{IsU8}
use Rattle.std.proofs.Common.{IsTrue}
use Rattle.pldm_pdr.specs.declared.sensor_range.SensorRange.{SensorRange}
use Rattle.pldm_pdr.specs.declared.numeric_sensor.NumericSensor.{NumericSensor}
use Rattle.pldm_pdr.specs.Fields.{all_fit, byte, flag, sized_bytes}
use Rattle.pldm_pdr.specs.Entities.{entity_bytes}
use Rattle.pldm_pdr.specs.Measures.{units_bytes, conversion_bytes}
use Rattle.pldm_pdr.specs.RangeFormats.{bits_size, format_code}
use Rattle.pldm_pdr.specs.NumericSensors.{sensor_range_bytes, range_fields, range_fits, sensor_range_at, numeric_sensor_bytes, readings, IsNumericSensor, numeric_sensor_at}
use Rattle.pldm_pdr.proofs.Steps.{IsBytes, stepped, goes_on, ok_is, Takes, with_next}
use Rattle.pldm_pdr.proofs.FittingTests.{all_fits, each_fits, split_and, join_and}
use Rattle.pldm_pdr.proofs.FieldsTaken.{byte_taken, flag_taken, number_taken, sized_taken, format_taken}
use Rattle.pldm_pdr.proofs.FieldsAgain.{byte_again, flag_again, number_again, sized_again, format_again}
use Rattle.pldm_pdr.proofs.Measures.{entity_taken, entity_again, units_taken, units_again, conversion_taken, conversion_again}
use Rattle.pldm_pdr.proofs.Regrouped.{regroup_11, regroup_17}

abbrev pub IsSensorRange : SensorRange → Type 0
IsSensorRange range = IsU8 range.support × IsTrue (range_fits range)

pub sensor_range_taken : (bytes : List ℕ) → IsBytes bytes → (x : SensorRange × List ℕ) → sensor_range_at bytes ≡ Ok x → Takes bytes (sensor_range_bytes x.0) x.1 × IsSensorRange x.0
unfolding sensor_range_at
sensor_range_taken bytes small x e =
    stepped e (format_taken bytes small) (λ f1 t1 e1.
    stepped e1 (byte_taken f1.1 t1.small) (λ f2 t2 e2.
    stepped e2 (sized_taken (bits_size f1.0) f2.1 t2.0.small) (λ f3 t3 e3.
    stepped e3 (sized_taken (bits_size f1.0) f3.1 t3.0.small) (λ f4 t4 e4.
    stepped e4 (sized_taken (bits_size f1.0) f4.1 t4.0.small) (λ f5 t5 e5.
    stepped e5 (sized_taken (bits_size f1.0) f5.1 t5.0.small) (λ f6 t6 e6.
    stepped e6 (sized_taken (bits_size f1.0) f6.1 t6.0.small) (λ f7 t7 e7.
    stepped e7 (sized_taken (bits_size f1.0) f7.1 t7.0.small) (λ f8 t8 e8.
    stepped e8 (sized_taken (bits_size f1.0) f8.1 t8.0.small) (λ f9 t9 e9.
    stepped e9 (sized_taken (bits_size f1.0) f9.1 t9.0.small) (λ f10 t10 e10.
    stepped e10 (sized_taken (bits_size f1.0) f10.1 t10.0.small) (λ f11 t11 e11.
    subst (λ (y : SensorRange × List ℕ). Takes bytes (sensor_range_bytes y.0) y.1 × IsSensorRange y.0) (ok_is e11) (with_next (with_next (with_next (with_next (with_next (with_next (with_next (with_next (with_next (with_next t1 t2.0) t3.0) t4.0) t5.0) t6.0) t7.0) t8.0) t9.0) t10.0) t11.0, (t2.1, all_fits (bits_size f1.0) (f3.0 ∷ f4.0 ∷ f5.0 ∷ f6.0 ∷ f7.0 ∷ f8.0 ∷ f9.0 ∷ f10.0 ∷ f11.0 ∷ []) (t3.1, (t4.1, (t5.1, (t6.1, (t7.1, (t8.1, (t9.1, (t10.1, (t11.1, tt))))))))))))))))))))))

pub sensor_range_again : (range : SensorRange) (rest : List ℕ) → IsSensorRange range → sensor_range_at (sensor_range_bytes range ++ rest) ≡ Ok (range, rest)
unfolding sensor_range_at
sensor_range_again range rest ok =
    let fits = each_fits (bits_size range.format) (range_fields range) ok.1 in
    ap sensor_range_at (regroup_11 (byte (format_code range.format)) (byte range.support) (sized_bytes (bits_size range.format) range.nominal) (sized_bytes (bits_size range.format) range.normal_max) (sized_bytes (bits_size range.format) range.normal_min) (sized_bytes (bits_size range.format) range.warning_high) (sized_bytes (bits_size range.format) range.warning_low) (sized_bytes (bits_size range.format) range.critical_high) (sized_bytes (bits_size range.format) range.critical_low) (sized_bytes (bits_size range.format) range.fatal_high) (sized_bytes (bits_size range.format) range.fatal_low) rest)
    ∙ goes_on _ (format_again range.format _) (goes_on _ (byte_again range.support _) (goes_on _ (sized_again (bits_size range.format) range.nominal _ fits.0) (goes_on _ (sized_again (bits_size range.format) range.normal_max _ fits.1.0) (goes_on _ (sized_again (bits_size range.format) range.normal_min _ fits.1.1.0) (goes_on _ (sized_again (bits_size range.format) range.warning_high _ fits.1.1.1.0) (goes_on _ (sized_again (bits_size range.format) range.warning_low _ fits.1.1.1.1.0) (goes_on _ (sized_again (bits_size range.format) range.critical_high _ fits.1.1.1.1.1.0) (goes_on _ (sized_again (bits_size range.format) range.critical_low _ fits.1.1.1.1.1.1.0) (goes_on _ (sized_again (bits_size range.format) range.fatal_high _ fits.1.1.1.1.1.1.1.0) (goes_on _ (sized_again (bits_size range.format) range.fatal_low _ fits.1.1.1.1.1.1.1.1.0) refl))))))))))

pub numeric_sensor_taken : (bytes : List ℕ) → IsBytes bytes → (x : NumericSensor × List ℕ) → numeric_sensor_at bytes ≡ Ok x → Takes bytes (numeric_sensor_bytes x.0) x.1 × IsNumericSensor x.0
unfolding numeric_sensor_at
numeric_sensor_taken bytes small x e =
    stepped e (number_taken 2 bytes small) (λ f1 t1 e1.
    stepped e1 (number_taken 2 f1.1 t1.0.small) (λ f2 t2 e2.
    stepped e2 (entity_taken f2.1 t2.0.small) (λ f3 t3 e3.
    stepped e3 (byte_taken f3.1 t3.0.small) (λ f4 t4 e4.
    stepped e4 (flag_taken f4.1 t4.0.small) (λ f5 t5 e5.
    stepped e5 (units_taken f5.1 t5.small) (λ f6 t6 e6.
    stepped e6 (byte_taken f6.1 t6.0.small) (λ f7 t7 e7.
    stepped e7 (byte_taken f7.1 t7.0.small) (λ f8 t8 e8.
    stepped e8 (conversion_taken f8.1 t8.0.small) (λ f9 t9 e9.
    stepped e9 (sized_taken (f9.0.size) f9.1 t9.0.small) (λ f10 t10 e10.
    stepped e10 (byte_taken f10.1 t10.0.small) (λ f11 t11 e11.
    stepped e11 (byte_taken f11.1 t11.0.small) (λ f12 t12 e12.
    stepped e12 (number_taken 4 f12.1 t12.0.small) (λ f13 t13 e13.
    stepped e13 (number_taken 4 f13.1 t13.0.small) (λ f14 t14 e14.
    stepped e14 (sized_taken (f9.0.size) f14.1 t14.0.small) (λ f15 t15 e15.
    stepped e15 (sized_taken (f9.0.size) f15.1 t15.0.small) (λ f16 t16 e16.
    stepped e16 (sensor_range_taken f16.1 t16.0.small) (λ f17 t17 e17.
    subst (λ (y : NumericSensor × List ℕ). Takes bytes (numeric_sensor_bytes y.0) y.1 × IsNumericSensor y.0) (ok_is e17) (with_next (with_next (with_next (with_next (with_next (with_next (with_next (with_next (with_next (with_next (with_next (with_next (with_next (with_next (with_next (with_next t1.0 t2.0) t3.0) t4.0) t5) t6.0) t7.0) t8.0) t9.0) t10.0) t11.0) t12.0) t13.0) t14.0) t15.0) t16.0) t17.0, (t1.1, t2.1, t3.1, t4.1, t6.1, t7.1, t8.1, t9.1, t11.1, t12.1, t13.1, t14.1, t17.1.0, join_and _ _ (all_fits f9.0.size (f10.0 ∷ f15.0 ∷ f16.0 ∷ []) (t10.1, (t15.1, (t16.1, tt)))) t17.1.1)))))))))))))))))))

pub numeric_sensor_again : (sensor : NumericSensor) (rest : List ℕ) → IsNumericSensor sensor → numeric_sensor_at (numeric_sensor_bytes sensor ++ rest) ≡ Ok (sensor, rest)
unfolding numeric_sensor_at
numeric_sensor_again sensor rest ok =
    let both = split_and (all_fit sensor.conversion.size (readings sensor)) (range_fits sensor.range) ok.13 in
    let fits = each_fits sensor.conversion.size (readings sensor) both.0 in
    ap numeric_sensor_at (regroup_17 (little_bytes 2 sensor.terminus_handle) (little_bytes 2 sensor.sensor_id) (entity_bytes sensor.entity) (byte sensor.init) (flag sensor.has_auxiliary_names) (units_bytes sensor.units) (byte sensor.rel) (byte sensor.auxiliary_oem_unit_handle) (conversion_bytes sensor.conversion) (sized_bytes (sensor.conversion.size) sensor.hysteresis) (byte sensor.supported_thresholds) (byte sensor.threshold_and_hysteresis_volatility) (little_bytes 4 sensor.state_transition_interval) (little_bytes 4 sensor.update_interval) (sized_bytes (sensor.conversion.size) sensor.max_readable) (sized_bytes (sensor.conversion.size) sensor.min_readable) (sensor_range_bytes sensor.range) rest)
    ∙ goes_on _ (number_again 2 sensor.terminus_handle _ ok.0) (goes_on _ (number_again 2 sensor.sensor_id _ ok.1) (goes_on _ (entity_again sensor.entity _ ok.2) (goes_on _ (byte_again sensor.init _) (goes_on _ (flag_again sensor.has_auxiliary_names _) (goes_on _ (units_again sensor.units _ ok.4) (goes_on _ (byte_again sensor.rel _) (goes_on _ (byte_again sensor.auxiliary_oem_unit_handle _) (goes_on _ (conversion_again sensor.conversion _ ok.7) (goes_on _ (sized_again (sensor.conversion.size) sensor.hysteresis _ fits.0) (goes_on _ (byte_again sensor.supported_thresholds _) (goes_on _ (byte_again sensor.threshold_and_hysteresis_volatility _) (goes_on _ (number_again 4 sensor.state_transition_interval _ ok.10) (goes_on _ (number_again 4 sensor.update_interval _ ok.11) (goes_on _ (sized_again (sensor.conversion.size) sensor.max_readable _ fits.1.0) (goes_on _ (sized_again (sensor.conversion.size) sensor.min_readable _ fits.1.1.0) (goes_on _ (sensor_range_again sensor.range _ (ok.12, both.1)) refl))))))))))))))))
