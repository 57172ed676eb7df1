-- The device that a description states: its keys are looked at in order, and the first fault is reported.
use Rattle.std.specs.Prelude.{ℕ, List, codes, Result, Ok}
use Rattle.mctp_packet.specs.Ids.{IsEid, IsKeep}
use Rattle.pldm_wire.specs.Settings.{IsWindow}
use Rattle.toml.specs.Data.{Members}
use Rattle.simulated_device.specs.Devices.{Device}
use Rattle.pldm_device.specs.Documents.{document_of}
use Rattle.pldm_device.specs.EffecterEntries.{numeric_effecters_in, state_effecters_in}
use Rattle.pldm_device.specs.EndpointSettings.{busy_in, window_in}
use Rattle.pldm_device.specs.HexValues.{time_at}
use Rattle.pldm_device.specs.KeyValues.{◌>>=◌, number_at}
use Rattle.pldm_device.specs.RecordEntries.{records_in}
use Rattle.pldm_device.specs.RecordTables.{with_records}
use Rattle.pldm_device.specs.SensorEntries.{numeric_sensors_in, state_sensors_in}
use Rattle.pldm_device.specs.VersionChecksums.{both_versions_in}
use Rattle.pldm_device.specs.declared.description.Description.{Description}
use Rattle.pldm_device.specs.declared.description_fault.FileFault.{FileFault}

-- the device with this terminus ID
unfoldable pub device_of : ℕ → Members → Result Device FileFault
device_of tid document = do
  versions ← both_versions_in document
  update_time ← time_at (codes "update_time") document
  oem_update_time ← time_at (codes "oem_update_time") document
  numeric_sensors ← numeric_sensors_in document
  state_sensors ← state_sensors_in numeric_sensors document
  numeric_effecters ← numeric_effecters_in document
  state_effecters ← state_effecters_in numeric_effecters document
  records ← records_in document
  Ok (record {
    tid = tid;
    base_versions = versions.0;
    platform_versions = versions.1;
    update_time = update_time;
    oem_update_time = oem_update_time;
    numeric_sensors = numeric_sensors;
    state_sensors = state_sensors;
    numeric_effecters = numeric_effecters;
    state_effecters = state_effecters;
    records = records;
  })

unfoldable pub description_of : Members → Result Description FileFault
description_of document = do
  eid ← number_at (codes "eid") 8 254 document
  keep ← number_at (codes "keep_ms") 1 60000 document
  window ← window_in document
  busy ← busy_in document
  tid ← number_at (codes "tid") 0 254 document
  plain ← device_of tid document
  device ← with_records eid document plain
  Ok (record { eid = eid; keep = keep; window = window; busy = busy; device = device })

-- the description that some bytes state, or why they state none
unfoldable pub stated : List ℕ → Result Description FileFault
stated bytes = document_of bytes >>= description_of

-- the endpoint's values are in their ranges
abbrev pub IsInRange : Description → Type 0
IsInRange description = IsEid description.eid × IsKeep description.keep × IsWindow description.window
