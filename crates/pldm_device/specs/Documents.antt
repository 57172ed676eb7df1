-- The TOML document that some bytes are.
use Rattle.std.specs.Prelude.{ℕ, if◌then◌else◌, List, Result, Err}
use Rattle.std.specs.Option.{ok_or}
use Rattle.std.specs.Str.{is_utf8}
use Rattle.toml.specs.Data.{Members}
use Rattle.toml.specs.Parse.{parse_document}
use Rattle.pldm_device.specs.declared.description_fault.FileFault.{FileFault}
use Rattle.pldm_device.specs.declared.description_fault.FileFault.TheVariants.{Toml}

-- the document's members, where the bytes are UTF-8 and TOML takes the text
abbrev pub document_of : List ℕ → Result Members FileFault
document_of bytes = if is_utf8 bytes then ok_or (parse_document bytes) Toml else Err Toml
