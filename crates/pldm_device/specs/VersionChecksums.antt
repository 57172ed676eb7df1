-- Whether a description has the checksum appended to its versions, by the key `version_checksum`, which may be missing.
use Rattle.std.specs.Prelude.{ℕ, Bool, true, false, codes, List, ◌++◌, Result, Ok, Err, if◌then◌else◌}
use Rattle.byteorder.specs.Endian.{little_bytes}
use Rattle.pldm_device.specs.HexValues.{versions_in}
use Rattle.pldm_device.specs.KeyValues.{◌>>=◌, flag_at, value_at}
use Rattle.toml.specs.Data.{Members}
use Rattle.pldm_wire.specs.Versions.{is_version_data}
use Rattle.pldm_wire.specs.Crc32.{crc32}
use Rattle.pldm_device.specs.declared.description_fault.FileFault.{FileFault}
use Rattle.pldm_device.specs.declared.description_fault.FileFault.TheVariants.{OutOfRange}

-- versions and their checksum, lowest byte first; all of it has to be sent in one part
abbrev pub with_checksum : Bool → List ℕ → Result (List ℕ) FileFault
with_checksum false versions = Ok versions
with_checksum true versions =
    let bytes = versions ++ little_bytes 4 (crc32 versions) in if is_version_data bytes then Ok bytes else Err OutOfRange

-- the versions of both types, of messaging control and of the platform
unfoldable pub both_versions_in : Members → Result (List ℕ × List ℕ) FileFault
both_versions_in document = do
  base_versions ← value_at (codes "version0") document >>= versions_in
  platform_versions ← value_at (codes "version2") document >>= versions_in
  has_checksum ← flag_at (codes "version_checksum") document
  base_checked ← with_checksum has_checksum base_versions
  platform_checked ← with_checksum has_checksum platform_versions
  Ok (base_checked, platform_checked)
