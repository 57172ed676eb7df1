-- The commands of firmware update, one row each: its number, its layout, and its fields as the layout's values
-- (DSP0267).
use Rattle.std.specs.Prelude.{◌≡◌, ℕ, List}
use Rattle.pldm_update.specs.Layouts.{Layout, End, Then, Byte, Number, Part, Text, Values}
use Rattle.pldm_update.specs.Layouts.{bytes_of, AllInRange, StandIn}
use Rattle.pldm_update.specs.declared.assigned.TheConstants.{QUERY_DEVICE_IDENTIFIERS, GET_FIRMWARE_PARAMETERS}
use Rattle.pldm_update.specs.declared.assigned.TheConstants.{REQUEST_UPDATE, PASS_COMPONENT_TABLE, UPDATE_COMPONENT}
use Rattle.pldm_update.specs.declared.assigned.TheConstants.{REQUEST_FIRMWARE_DATA, TRANSFER_COMPLETE, VERIFY_COMPLETE}
use Rattle.pldm_update.specs.declared.assigned.TheConstants.{APPLY_COMPLETE, ACTIVATE_FIRMWARE, GET_STATUS}
use Rattle.pldm_update.specs.declared.assigned.TheConstants.{CANCEL_UPDATE_COMPONENT, CANCEL_UPDATE}
use Rattle.pldm_update.specs.declared.command.UpdateCommand.{UpdateCommand}
use Rattle.pldm_update.specs.declared.command.UpdateCommand.TheVariants.{QueryDeviceIdentifiers, GetFirmwareParameters}
use Rattle.pldm_update.specs.declared.command.UpdateCommand.TheVariants.{RequestUpdate, PassComponentTable}
use Rattle.pldm_update.specs.declared.command.UpdateCommand.TheVariants.{UpdateComponent, RequestFirmwareData}
use Rattle.pldm_update.specs.declared.command.UpdateCommand.TheVariants.{TransferComplete, VerifyComplete}
use Rattle.pldm_update.specs.declared.command.UpdateCommand.TheVariants.{ApplyComplete, ActivateFirmware, GetStatus}
use Rattle.pldm_update.specs.declared.command.UpdateCommand.TheVariants.{CancelUpdateComponent, CancelUpdate}

abbrev pub number_of : UpdateCommand → ℕ
number_of QueryDeviceIdentifiers = QUERY_DEVICE_IDENTIFIERS
number_of GetFirmwareParameters = GET_FIRMWARE_PARAMETERS
number_of (RequestUpdate _ _ _ _ _) = REQUEST_UPDATE
number_of (PassComponentTable _ _ _ _) = PASS_COMPONENT_TABLE
number_of (UpdateComponent _ _ _ _ _) = UPDATE_COMPONENT
number_of (RequestFirmwareData _ _) = REQUEST_FIRMWARE_DATA
number_of (TransferComplete _) = TRANSFER_COMPLETE
number_of (VerifyComplete _) = VERIFY_COMPLETE
number_of (ApplyComplete _ _) = APPLY_COMPLETE
number_of (ActivateFirmware _) = ACTIVATE_FIRMWARE
number_of GetStatus = GET_STATUS
number_of CancelUpdateComponent = CANCEL_UPDATE_COMPONENT
number_of CancelUpdate = CANCEL_UPDATE

-- the layouts of the commands' data; that of a command with no data is `End`

-- maximum transfer size, components, outstanding requests, package data length, version of the set
abbrev pub request_update : Layout
request_update = Then (Number 4) (Then (Number 2) (Then Byte (Then (Number 2) (Then Text End))))

-- transfer flag, classification, identifier, index, comparison stamp, version
abbrev pub pass_component_table : Layout
pass_component_table =
    Then Part (Then (Number 2) (Then (Number 2) (Then Byte (Then (Number 4) (Then Text End)))))

-- classification, identifier, index, comparison stamp, image size, option flags, version
abbrev pub update_component : Layout
update_component =
    Then (Number 2) (Then (Number 2) (Then Byte
    (Then (Number 4) (Then (Number 4) (Then (Number 4) (Then Text End))))))

-- offset, length
abbrev pub request_firmware_data : Layout
request_firmware_data = Then (Number 4) (Then (Number 4) End)

-- a result
abbrev pub one_byte : Layout
one_byte = Then Byte End

-- result, activation methods
abbrev pub apply_complete : Layout
apply_complete = Then Byte (Then (Number 2) End)

-- a layout and its values
pub record Fields : Type 0 where
  pub layout : Layout
  pub values : Values layout

abbrev pub fields : (layout : Layout) → Values layout → Fields
fields layout values = record { layout = layout; values = values }

-- a command's fields
abbrev pub fields_of : UpdateCommand → Fields
fields_of QueryDeviceIdentifiers = fields End tt
fields_of GetFirmwareParameters = fields End tt
fields_of (RequestUpdate max_transfer_bytes components outstanding_requests package_data_bytes version) =
    fields request_update
    (max_transfer_bytes, (components, (outstanding_requests, (package_data_bytes, (version, tt)))))
fields_of (PassComponentTable part component comparison_stamp version) =
    fields pass_component_table
    (part, (component.classification, (component.identifier, (component.index, (comparison_stamp, (version, tt))))))
fields_of (UpdateComponent component comparison_stamp image_bytes option_flags version) =
    fields update_component (
      component.classification,
      (
        component.identifier,
        (
          component.index,
          (comparison_stamp, (image_bytes, (option_flags, (version, tt)))),
        ),
      ),
    )
fields_of (RequestFirmwareData offset length) = fields request_firmware_data (offset, (length, tt))
fields_of (TransferComplete result) = fields one_byte (result, tt)
fields_of (VerifyComplete result) = fields one_byte (result, tt)
fields_of (ApplyComplete result activation_methods) = fields apply_complete (result, (activation_methods, tt))
fields_of (ActivateFirmware self_contained) = fields one_byte (self_contained, tt)
fields_of GetStatus = fields End tt
fields_of CancelUpdateComponent = fields End tt
fields_of CancelUpdate = fields End tt

-- the data that a command is written with
abbrev pub command_data : UpdateCommand → List ℕ
command_data command = bytes_of (fields_of command).layout (fields_of command).values

-- the ranges of a command's fields
abbrev pub IsUpdateCommand : UpdateCommand → Type 0
IsUpdateCommand command = AllInRange (fields_of command).layout (fields_of command).values

-- data after this command number is the command
pub record UpdateCommandFields (command : UpdateCommand) (number : ℕ) (bytes : List ℕ) : Type 0 where
  pub number_is : number ≡ number_of command
  pub stand : StandIn (fields_of command).layout (fields_of command).values bytes
