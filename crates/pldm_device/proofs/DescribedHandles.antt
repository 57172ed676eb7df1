-- No two records of a description have one handle.
use Rattle.std.proofs.Common.{◌≡◌, ℕ, [], List, codes, Ok, subst, arith}
use Rattle.toml.specs.Data.{Items, no_items, item, Members}
use Rattle.pldm_wire.specs.declared.restart_policy.RestartPolicy.{RestartPolicy}
use Rattle.pldm_wire.specs.declared.state_fields.SensorStateField.{SensorStateField}
use Rattle.pldm_records.specs.ById.{ById}
use Rattle.pldm_device.specs.Descriptions.{description_of, device_of}
use Rattle.simulated_device.specs.Devices.{Device}
use Rattle.pldm_device.specs.EffecterEntries.{numeric_effecters_in, state_effecters_in}
use Rattle.pldm_device.specs.EndpointSettings.{busy_in, window_in}
use Rattle.pldm_device.specs.Entries.{entries_at}
use Rattle.pldm_device.specs.HexValues.{time_at}
use Rattle.pldm_device.specs.KeyValues.{◌>>=◌, number_at, value_at}
use Rattle.pldm_device.specs.RecordEntries.{record_of, records_after, records_in, with_record}
use Rattle.pldm_device.specs.RecordLaws.{DescribedHandlesDiffer, HandlesDiffer}
use Rattle.pldm_device.specs.RecordTables.{with_records}
use Rattle.pldm_device.specs.SensorEntries.{numeric_sensors_in, state_sensors_in}
use Rattle.simulated_device.specs.StateEffecters.{FieldsOfStates}
use Rattle.pldm_device.specs.VersionChecksums.{both_versions_in}
use Rattle.pldm_device.specs.declared.description.Description.{Description}
use Rattle.simulated_device.specs.declared.numeric.NumericEffecter.{NumericEffecter}
use Rattle.simulated_device.specs.declared.numeric.NumericSensor.{NumericSensor}
use Rattle.pldm_device.proofs.HandlesApart.{still_differ}
use Rattle.pldm_device.proofs.RecordsMade.{came, same_done}
use Rattle.pldm_device.proofs.TablesRecorded.{records_differ}

-- those that the text states

after_differ : (before : List (List ℕ)) (items : Items) (after : List (List ℕ)) → records_after before items ≡ Ok after → HandlesDiffer before → HandlesDiffer after
after_differ before no_items after e differ = subst (λ (x : List (List ℕ)). HandlesDiffer x) (same_done before after e) differ
after_differ before (item entry rest) after e differ =
    let a = came (record_of entry >>= with_record before) (λ records. records_after records rest) after e in
    let b = came (record_of entry) (with_record before) a.value a.first in
    after_differ a.value rest after a.next (still_differ before b.value a.value b.next differ)

stated_differ : (document : Members) (records : List (List ℕ)) → records_in document ≡ Ok records → HandlesDiffer records
stated_differ document records e =
    let a = came (entries_at (codes "pdr") document) (records_after []) records e in
    after_differ [] a.value records a.next (λ i j d less within. absurd (omega arith))

abbrev device_with : ℕ → (List ℕ × List ℕ) → List ℕ → List ℕ → ById NumericSensor → ById (List SensorStateField) → ById NumericEffecter → ById FieldsOfStates → List (List ℕ) → Device
device_with tid versions update_time oem_update_time numeric_sensors state_sensors numeric_effecters state_effecters records = record {
  tid = tid;
  base_versions = versions.0;
  platform_versions = versions.1;
  update_time = update_time;
  oem_update_time = oem_update_time;
  numeric_sensors = numeric_sensors;
  state_sensors = state_sensors;
  numeric_effecters = numeric_effecters;
  state_effecters = state_effecters;
  records = records;
}

plain_differ : (tid : ℕ) (document : Members) (device : Device) → device_of tid document ≡ Ok device → HandlesDiffer device.records
unfolding device_of
plain_differ tid document device e =
    let s0 = came (both_versions_in document) (λ versions. time_at (codes "update_time") document >>= λ update_time. time_at (codes "oem_update_time") document >>= λ oem_update_time. numeric_sensors_in document >>= λ numeric_sensors. state_sensors_in numeric_sensors document >>= λ state_sensors. numeric_effecters_in document >>= λ numeric_effecters. state_effecters_in numeric_effecters document >>= λ state_effecters. records_in document >>= λ records. Ok (device_with tid versions update_time oem_update_time numeric_sensors state_sensors numeric_effecters state_effecters records)) device e in
    let s1 = came (time_at (codes "update_time") document) (λ update_time. time_at (codes "oem_update_time") document >>= λ oem_update_time. numeric_sensors_in document >>= λ numeric_sensors. state_sensors_in numeric_sensors document >>= λ state_sensors. numeric_effecters_in document >>= λ numeric_effecters. state_effecters_in numeric_effecters document >>= λ state_effecters. records_in document >>= λ records. Ok (device_with tid s0.value update_time oem_update_time numeric_sensors state_sensors numeric_effecters state_effecters records)) device s0.next in
    let s2 = came (time_at (codes "oem_update_time") document) (λ oem_update_time. numeric_sensors_in document >>= λ numeric_sensors. state_sensors_in numeric_sensors document >>= λ state_sensors. numeric_effecters_in document >>= λ numeric_effecters. state_effecters_in numeric_effecters document >>= λ state_effecters. records_in document >>= λ records. Ok (device_with tid s0.value s1.value oem_update_time numeric_sensors state_sensors numeric_effecters state_effecters records)) device s1.next in
    let s3 = came (numeric_sensors_in document) (λ numeric_sensors. state_sensors_in numeric_sensors document >>= λ state_sensors. numeric_effecters_in document >>= λ numeric_effecters. state_effecters_in numeric_effecters document >>= λ state_effecters. records_in document >>= λ records. Ok (device_with tid s0.value s1.value s2.value numeric_sensors state_sensors numeric_effecters state_effecters records)) device s2.next in
    let s4 = came (state_sensors_in s3.value document) (λ state_sensors. numeric_effecters_in document >>= λ numeric_effecters. state_effecters_in numeric_effecters document >>= λ state_effecters. records_in document >>= λ records. Ok (device_with tid s0.value s1.value s2.value s3.value state_sensors numeric_effecters state_effecters records)) device s3.next in
    let s5 = came (numeric_effecters_in document) (λ numeric_effecters. state_effecters_in numeric_effecters document >>= λ state_effecters. records_in document >>= λ records. Ok (device_with tid s0.value s1.value s2.value s3.value s4.value numeric_effecters state_effecters records)) device s4.next in
    let s6 = came (state_effecters_in s5.value document) (λ state_effecters. records_in document >>= λ records. Ok (device_with tid s0.value s1.value s2.value s3.value s4.value s5.value state_effecters records)) device s5.next in
    let s7 = came (records_in document) (λ records. Ok (device_with tid s0.value s1.value s2.value s3.value s4.value s5.value s6.value records)) device s6.next in
    subst (λ (d : Device). HandlesDiffer d.records) (same_done (device_with tid s0.value s1.value s2.value s3.value s4.value s5.value s6.value s7.value) device s7.next) (stated_differ document s7.value s7.first)

abbrev description_with : ℕ → ℕ → ℕ → RestartPolicy → Device → Description
description_with eid keep window busy device = record { eid = eid; keep = keep; window = window; busy = busy; device = device }

pub described_differ : DescribedHandlesDiffer
unfolding description_of
described_differ document description e =
    let s0 = came (number_at (codes "eid") 8 254 document) (λ eid. number_at (codes "keep_ms") 1 60000 document >>= λ keep. window_in document >>= λ window. busy_in document >>= λ busy. number_at (codes "tid") 0 254 document >>= λ tid. device_of tid document >>= λ plain. with_records eid document plain >>= λ device. Ok (description_with eid keep window busy device)) description e in
    let s1 = came (number_at (codes "keep_ms") 1 60000 document) (λ keep. window_in document >>= λ window. busy_in document >>= λ busy. number_at (codes "tid") 0 254 document >>= λ tid. device_of tid document >>= λ plain. with_records s0.value document plain >>= λ device. Ok (description_with s0.value keep window busy device)) description s0.next in
    let s2 = came (window_in document) (λ window. busy_in document >>= λ busy. number_at (codes "tid") 0 254 document >>= λ tid. device_of tid document >>= λ plain. with_records s0.value document plain >>= λ device. Ok (description_with s0.value s1.value window busy device)) description s1.next in
    let s3 = came (busy_in document) (λ busy. number_at (codes "tid") 0 254 document >>= λ tid. device_of tid document >>= λ plain. with_records s0.value document plain >>= λ device. Ok (description_with s0.value s1.value s2.value busy device)) description s2.next in
    let s4 = came (number_at (codes "tid") 0 254 document) (λ tid. device_of tid document >>= λ plain. with_records s0.value document plain >>= λ device. Ok (description_with s0.value s1.value s2.value s3.value device)) description s3.next in
    let s5 = came (device_of s4.value document) (λ plain. with_records s0.value document plain >>= λ device. Ok (description_with s0.value s1.value s2.value s3.value device)) description s4.next in
    let s6 = came (with_records s0.value document s5.value) (λ device. Ok (description_with s0.value s1.value s2.value s3.value device)) description s5.next in
    subst (λ (d : Description). HandlesDiffer d.device.records) (same_done (description_with s0.value s1.value s2.value s3.value s6.value) description s6.next) (records_differ s0.value document s5.value s6.value s6.first (plain_differ s4.value document s5.value s5.first))
