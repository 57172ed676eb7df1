-- Each row's fields, one after another, are the row's data.
use Rattle.std.proofs.Common.{arith}
use Rattle.pldm_update.proofs.command_writing.spelled.Goals as goal

pub returns-in-RequestUpdate-clause-items : goal.returns-in-RequestUpdate-clause-items
returns-in-RequestUpdate-clause-items c = rw c.in-RequestUpdate.is c.request_update_data.ensures.items

pub returns-in-RequestUpdate-clause-range : goal.returns-in-RequestUpdate-clause-range
returns-in-RequestUpdate-clause-range c = rw c.in-RequestUpdate.is c.request_update_data.ensures.range

pub returns-in-PassComponentTable-clause-items : goal.returns-in-PassComponentTable-clause-items
returns-in-PassComponentTable-clause-items c = rw c.in-PassComponentTable.is c.pass_component_table_data.ensures.items

pub returns-in-PassComponentTable-clause-range : goal.returns-in-PassComponentTable-clause-range
returns-in-PassComponentTable-clause-range c = rw c.in-PassComponentTable.is c.pass_component_table_data.ensures.range

pub returns-in-UpdateComponent-clause-items : goal.returns-in-UpdateComponent-clause-items
returns-in-UpdateComponent-clause-items c = rw c.in-UpdateComponent.is c.update_component_data.ensures.items

pub returns-in-UpdateComponent-clause-range : goal.returns-in-UpdateComponent-clause-range
returns-in-UpdateComponent-clause-range c = rw c.in-UpdateComponent.is c.update_component_data.ensures.range

pub returns-in-RequestFirmwareData-clause-items : goal.returns-in-RequestFirmwareData-clause-items
returns-in-RequestFirmwareData-clause-items c = rw c.in-RequestFirmwareData.is c.data_of.ensures

pub returns-in-RequestFirmwareData-clause-range : goal.returns-in-RequestFirmwareData-clause-range
returns-in-RequestFirmwareData-clause-range c = rw c.in-RequestFirmwareData.is (omega arith, (omega arith, tt))

pub returns-in-TransferComplete-clause-items : goal.returns-in-TransferComplete-clause-items
returns-in-TransferComplete-clause-items c = rw c.in-TransferComplete.is c.data_of-in-TransferComplete.ensures

pub returns-in-TransferComplete-clause-range : goal.returns-in-TransferComplete-clause-range
returns-in-TransferComplete-clause-range c = rw c.in-TransferComplete.is (omega arith, tt)

pub returns-in-VerifyComplete-clause-items : goal.returns-in-VerifyComplete-clause-items
returns-in-VerifyComplete-clause-items c = rw c.in-VerifyComplete.is c.data_of-in-VerifyComplete.ensures

pub returns-in-VerifyComplete-clause-range : goal.returns-in-VerifyComplete-clause-range
returns-in-VerifyComplete-clause-range c = rw c.in-VerifyComplete.is (omega arith, tt)

pub returns-in-ApplyComplete-clause-items : goal.returns-in-ApplyComplete-clause-items
returns-in-ApplyComplete-clause-items c = rw c.in-ApplyComplete.is c.data_of-in-ApplyComplete.ensures

pub returns-in-ApplyComplete-clause-range : goal.returns-in-ApplyComplete-clause-range
returns-in-ApplyComplete-clause-range c = rw c.in-ApplyComplete.is (omega arith, (omega arith, tt))

pub returns-in-ActivateFirmware-clause-items : goal.returns-in-ActivateFirmware-clause-items
returns-in-ActivateFirmware-clause-items c = rw c.in-ActivateFirmware.is c.data_of-in-ActivateFirmware.ensures

pub returns-in-ActivateFirmware-clause-range : goal.returns-in-ActivateFirmware-clause-range
returns-in-ActivateFirmware-clause-range c = rw c.in-ActivateFirmware.is (omega arith, tt)
