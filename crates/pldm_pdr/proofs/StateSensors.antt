-- The state sensor: what is read was taken, and is read again.
use Rattle.std.proofs.Common.{◌≡◌, ℕ, List, ◌++◌, Ok, refl, ap, subst, ◌∙◌}
use Rattle.byteorder.specs.Endian.{little_bytes}
use Rattle.pldm_pdr.specs.declared.state_sensor.StateSensor.{StateSensor}
use Rattle.pldm_pdr.specs.Fields.{byte, flag}
use Rattle.pldm_pdr.specs.Entities.{entity_bytes}
use Rattle.pldm_pdr.specs.StateSets.{composite_bytes}
use Rattle.pldm_pdr.specs.StateSensors.{state_sensor_bytes, IsStateSensor, state_sensor_at}
use Rattle.pldm_pdr.proofs.Steps.{IsBytes, stepped, goes_on, ok_is, Takes, with_next}
use Rattle.pldm_pdr.proofs.FieldsTaken.{byte_taken, flag_taken, number_taken}
use Rattle.pldm_pdr.proofs.FieldsAgain.{byte_again, flag_again, number_again}
use Rattle.pldm_pdr.proofs.Measures.{entity_taken, entity_again}
use Rattle.pldm_pdr.proofs.StateSets.{composite_taken, composite_again}
use Rattle.pldm_pdr.proofs.Regrouped.{regroup_6}

pub state_sensor_taken : (bytes : List ℕ) → IsBytes bytes → (x : StateSensor × List ℕ) → state_sensor_at bytes ≡ Ok x → Takes bytes (state_sensor_bytes x.0) x.1 × IsStateSensor x.0
unfolding state_sensor_at
state_sensor_taken bytes small x e =
    stepped e (number_taken 2 bytes small) (λ f1 t1 e1.
    stepped e1 (number_taken 2 f1.1 t1.0.small) (λ f2 t2 e2.
    stepped e2 (entity_taken f2.1 t2.0.small) (λ f3 t3 e3.
    stepped e3 (byte_taken f3.1 t3.0.small) (λ f4 t4 e4.
    stepped e4 (flag_taken f4.1 t4.0.small) (λ f5 t5 e5.
    stepped e5 (composite_taken f5.1 t5.small) (λ f6 t6 e6.
    subst (λ (y : StateSensor × List ℕ). Takes bytes (state_sensor_bytes y.0) y.1 × IsStateSensor y.0) (ok_is e6) (with_next (with_next (with_next (with_next (with_next t1.0 t2.0) t3.0) t4.0) t5) t6.0, (t1.1, t2.1, t3.1, t4.1, t6.1))))))))

pub state_sensor_again : (sensor : StateSensor) (rest : List ℕ) → IsStateSensor sensor → state_sensor_at (state_sensor_bytes sensor ++ rest) ≡ Ok (sensor, rest)
unfolding state_sensor_at
state_sensor_again sensor rest ok =
    ap state_sensor_at (regroup_6 (little_bytes 2 sensor.terminus_handle) (little_bytes 2 sensor.sensor_id) (entity_bytes sensor.entity) (byte sensor.init) (flag sensor.has_auxiliary_names) (composite_bytes sensor.sets.items) rest)
    ∙ goes_on _ (number_again 2 sensor.terminus_handle _ ok.0) (goes_on _ (number_again 2 sensor.sensor_id _ ok.1) (goes_on _ (entity_again sensor.entity _ ok.2) (goes_on _ (byte_again sensor.init _) (goes_on _ (flag_again sensor.has_auxiliary_names _) (goes_on _ (composite_again sensor.sets.items _ ok.4) refl)))))
