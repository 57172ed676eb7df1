-- What the table `control` of a description says of the endpoint, as control messages report it.
use Rattle.std.specs.Prelude.{ℕ, false, codes, List, Option, None, Some, Result, Ok}
use Rattle.toml.specs.Data.{Data, Members, get_member}
use Rattle.pldm_device.specs.Documents.{document_of}
use Rattle.pldm_device.specs.HexValues.{exactly_in}
use Rattle.pldm_device.specs.KeyValues.{◌>>=◌, flag_at, map_ok, table_in}
use Rattle.pldm_device.specs.declared.control_table.ControlTable.{ControlTable}
use Rattle.pldm_device.specs.declared.description_fault.FileFault.{FileFault}
use Rattle.pldm_device.specs.declared.limits.TheConstants.{UUID_BYTES, VERSION_BYTES}

-- the bytes of a value that may be missing, as many as that
abbrev pub bytes_if_there : ℕ → Option Data → Result (Option (List ℕ)) FileFault
bytes_if_there count None = Ok None
bytes_if_there count (Some value) = map_ok Some (exactly_in count value)

abbrev pub bytes_at : List ℕ → ℕ → Members → Result (Option (List ℕ)) FileFault
bytes_at key count table = bytes_if_there count (get_member key table)

-- the keys of the table, in order
unfoldable pub control_table_of : Members → Result ControlTable FileFault
control_table_of table = do
  uuid ← bytes_at (codes "uuid") UUID_BYTES table
  base_version ← bytes_at (codes "base_version") VERSION_BYTES table
  control_version ← bytes_at (codes "control_version") VERSION_BYTES table
  pldm_version ← bytes_at (codes "pldm_version") VERSION_BYTES table
  assigned ← flag_at (codes "assigned") table
  Ok (record {
    uuid = uuid;
    base_version = base_version;
    control_version = control_version;
    pldm_version = pldm_version;
    assigned = assigned;
  })

-- a description without the table says nothing
abbrev pub control_if_there : Option Data → Result ControlTable FileFault
control_if_there None = Ok (record {
  uuid = None;
  base_version = None;
  control_version = None;
  pldm_version = None;
  assigned = false;
})
control_if_there (Some value) = table_in value >>= control_table_of

abbrev pub control_in : Members → Result ControlTable FileFault
control_in document = control_if_there (get_member (codes "control") document)

-- what the description of some bytes says, or the first fault of the table
unfoldable pub control_of : List ℕ → Result ControlTable FileFault
control_of bytes = document_of bytes >>= control_in
