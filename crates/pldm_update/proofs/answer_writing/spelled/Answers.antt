-- Each row's fields, one after another, are the row's data.
use Rattle.std.proofs.Common.{arith, append-nil}
use Rattle.pldm_update.proofs.answer_writing.spelled.Goals as goal

pub returns-in-QueryDeviceIdentifiers-clause-items : goal.returns-in-QueryDeviceIdentifiers-clause-items
returns-in-QueryDeviceIdentifiers-clause-items c =
    rw c.in-QueryDeviceIdentifiers.is (rw (c.as_slice.ensures.bytes, append-nil) at c.data_of.ensures)

pub returns-in-GetFirmwareParameters-clause-items : goal.returns-in-GetFirmwareParameters-clause-items
returns-in-GetFirmwareParameters-clause-items c =
    rw c.in-GetFirmwareParameters.is (rw (c.as_slice-in-GetFirmwareParameters.ensures.bytes, append-nil) at c.data_of-in-GetFirmwareParameters.ensures)

pub returns-in-RequestUpdate-clause-items : goal.returns-in-RequestUpdate-clause-items
returns-in-RequestUpdate-clause-items c = rw c.in-RequestUpdate.is c.data_of-in-RequestUpdate.ensures

pub returns-in-RequestUpdate-clause-range : goal.returns-in-RequestUpdate-clause-range
returns-in-RequestUpdate-clause-range c = rw c.in-RequestUpdate.is (omega arith, (omega arith, tt))

pub returns-in-PassComponentTable-clause-items : goal.returns-in-PassComponentTable-clause-items
returns-in-PassComponentTable-clause-items c = rw c.in-PassComponentTable.is c.data_of-in-PassComponentTable.ensures

pub returns-in-PassComponentTable-clause-range : goal.returns-in-PassComponentTable-clause-range
returns-in-PassComponentTable-clause-range c = rw c.in-PassComponentTable.is (omega arith, (omega arith, tt))

pub returns-in-UpdateComponent-clause-items : goal.returns-in-UpdateComponent-clause-items
returns-in-UpdateComponent-clause-items c = rw c.in-UpdateComponent.is c.data_of-in-UpdateComponent.ensures

pub returns-in-UpdateComponent-clause-range : goal.returns-in-UpdateComponent-clause-range
returns-in-UpdateComponent-clause-range c = rw c.in-UpdateComponent.is (omega arith, (omega arith, (omega arith, (omega arith, tt))))

pub returns-in-ActivateFirmware-clause-items : goal.returns-in-ActivateFirmware-clause-items
returns-in-ActivateFirmware-clause-items c = rw c.in-ActivateFirmware.is c.data_of-in-ActivateFirmware.ensures

pub returns-in-ActivateFirmware-clause-range : goal.returns-in-ActivateFirmware-clause-range
returns-in-ActivateFirmware-clause-range c = rw c.in-ActivateFirmware.is (omega arith, tt)

pub returns-in-CancelUpdate-clause-items : goal.returns-in-CancelUpdate-clause-items
returns-in-CancelUpdate-clause-items c = rw c.in-CancelUpdate.is c.data_of-in-CancelUpdate.ensures

pub returns-in-CancelUpdate-clause-range : goal.returns-in-CancelUpdate-clause-range
returns-in-CancelUpdate-clause-range c = rw c.in-CancelUpdate.is (omega arith, (omega arith, tt))

pub returns-in-RequestFirmwareData-clause-items : goal.returns-in-RequestFirmwareData-clause-items
returns-in-RequestFirmwareData-clause-items c =
    rw c.in-RequestFirmwareData.is (rw (c.as_slice-in-RequestFirmwareData.ensures.value, append-nil) at c.data_of-in-RequestFirmwareData.ensures)

pub returns-in-GetStatus-clause-items : goal.returns-in-GetStatus-clause-items
returns-in-GetStatus-clause-items c =
    rw c.in-GetStatus.is (rw (c.number.ensures, c.number-in-GetStatus.ensures) at c.data_of-in-GetStatus.ensures)
