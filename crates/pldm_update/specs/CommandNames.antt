-- The names of the commands, as the standard spells them (DSP0267).
use Rattle.std.specs.Prelude.{ℕ, ◌==◌, List, codes, Option, Some, None, if◌then◌else◌}
use Rattle.pldm_update.specs.declared.assigned.TheConstants.{QUERY_DEVICE_IDENTIFIERS, GET_FIRMWARE_PARAMETERS}
use Rattle.pldm_update.specs.declared.assigned.TheConstants.{REQUEST_UPDATE, PASS_COMPONENT_TABLE, UPDATE_COMPONENT}
use Rattle.pldm_update.specs.declared.assigned.TheConstants.{REQUEST_FIRMWARE_DATA, TRANSFER_COMPLETE, VERIFY_COMPLETE}
use Rattle.pldm_update.specs.declared.assigned.TheConstants.{APPLY_COMPLETE, ACTIVATE_FIRMWARE, GET_STATUS}
use Rattle.pldm_update.specs.declared.assigned.TheConstants.{CANCEL_UPDATE_COMPONENT, CANCEL_UPDATE}

abbrev pub name_of : ℕ → Option (List ℕ)
name_of number =
    if number == QUERY_DEVICE_IDENTIFIERS then Some (codes "QueryDeviceIdentifiers")
    else if number == GET_FIRMWARE_PARAMETERS then Some (codes "GetFirmwareParameters")
    else if number == REQUEST_UPDATE then Some (codes "RequestUpdate")
    else if number == PASS_COMPONENT_TABLE then Some (codes "PassComponentTable")
    else if number == UPDATE_COMPONENT then Some (codes "UpdateComponent")
    else if number == REQUEST_FIRMWARE_DATA then Some (codes "RequestFirmwareData")
    else if number == TRANSFER_COMPLETE then Some (codes "TransferComplete")
    else if number == VERIFY_COMPLETE then Some (codes "VerifyComplete")
    else if number == APPLY_COMPLETE then Some (codes "ApplyComplete")
    else if number == ACTIVATE_FIRMWARE then Some (codes "ActivateFirmware")
    else if number == GET_STATUS then Some (codes "GetStatus")
    else if number == CANCEL_UPDATE_COMPONENT then Some (codes "CancelUpdateComponent")
    else if number == CANCEL_UPDATE then Some (codes "CancelUpdate")
    else None
