-- Bytes that a description has as hex text.
use Rattle.std.specs.Prelude.{ℕ, ◌==◌, List, length, Result, Ok, Err, if◌then◌else◌}
use Rattle.hex.specs.Hex.{decode_of}
use Rattle.hex.specs.declared.error.FromHexError.{FromHexError}
use Rattle.toml.specs.Data.{Data, Members}
use Rattle.pldm_wire.specs.Versions.{is_version_data}
use Rattle.pldm_wire.specs.declared.limits.TheConstants.{TIME_BYTES}
use Rattle.pldm_device.specs.declared.description_fault.FileFault.{FileFault}
use Rattle.pldm_device.specs.declared.description_fault.FileFault.TheVariants.{BadHex, OutOfRange}
use Rattle.pldm_device.specs.KeyValues.{◌>>=◌, text_in, value_at}

abbrev pub decoded : Result (List ℕ) FromHexError → Result (List ℕ) FileFault
decoded (Ok bytes) = Ok bytes
decoded (Err fault) = Err BadHex

abbrev pub bytes_in : Data → Result (List ℕ) FileFault
bytes_in value = text_in value >>= λ text. decoded (decode_of text)

-- whole versions of four bytes
abbrev pub versions_in : Data → Result (List ℕ) FileFault
versions_in value = bytes_in value >>= λ bytes. if is_version_data bytes then Ok bytes else Err OutOfRange

-- as many bytes as that
abbrev pub exactly_in : ℕ → Data → Result (List ℕ) FileFault
exactly_in count value = bytes_in value >>= λ bytes. if length bytes == count then Ok bytes else Err OutOfRange

-- a time of thirteen bytes, at the key
abbrev pub time_at : List ℕ → Members → Result (List ℕ) FileFault
time_at key document = value_at key document >>= exactly_in TIME_BYTES
