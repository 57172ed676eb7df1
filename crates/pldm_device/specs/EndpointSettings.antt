-- What a description says of how its endpoint treats requests: two keys, each of which may be missing.
use Rattle.std.specs.Prelude.{ℕ, codes, List, Option, Some, None, Result, Ok, Err, if◌then◌else◌}
use Rattle.toml.specs.Data.{Data, Members, get_member}
use Rattle.pldm_wire.specs.HandingOn.{none_handed_on}
use Rattle.pldm_wire.specs.SizeNames.{same_text}
use Rattle.pldm_wire.specs.declared.restart_policy.RestartPolicy.{RestartPolicy}
use Rattle.pldm_wire.specs.declared.restart_policy.RestartPolicy.TheVariants.{All, Sets}
use Rattle.pldm_device.specs.declared.description_fault.FileFault.{FileFault}
use Rattle.pldm_device.specs.declared.description_fault.FileFault.TheVariants.{OutOfRange}
use Rattle.pldm_device.specs.KeyValues.{◌>>=◌, number_in, text_in}

-- for how many instance IDs of a source answers are kept; for all 32 where the key is missing
abbrev pub window_if_there : Option Data → Result ℕ FileFault
window_if_there None = Ok 32
window_if_there (Some value) = number_in 1 32 value

abbrev pub window_in : Members → Result ℕ FileFault
window_in document = window_if_there (get_member (codes "window") document)

-- the busy time of this name
abbrev pub busy_of_name : List ℕ → Result RestartPolicy FileFault
busy_of_name name =
    if same_text name (codes "all") then Ok All
    else if same_text name (codes "sets") then Ok (Sets none_handed_on)
    else Err OutOfRange

-- which requests are refused in the busy time; all of them where the key is missing
abbrev pub busy_if_there : Option Data → Result RestartPolicy FileFault
busy_if_there None = Ok All
busy_if_there (Some value) = text_in value >>= busy_of_name

abbrev pub busy_in : Members → Result RestartPolicy FileFault
busy_in document = busy_if_there (get_member (codes "busy") document)
