-- The names of the types of records, as DSP0248 spells them without spaces; other numbers have none. The names of the
-- faults for which bytes are no record.
use Rattle.std.specs.Prelude.{ℕ, ◌==◌, List, codes, Option, Some, None, if◌then◌else◌}
use Rattle.pldm_pdr.specs.declared.fault.RecordFault.{RecordFault}
use Rattle.pldm_pdr.specs.declared.fault.RecordFault.TheVariants.{Length, Version, OtherType, Short, Flag, Locator}
use Rattle.pldm_pdr.specs.declared.fault.RecordFault.TheVariants.{Size, Format, Count, States, Shared, Tag, Names}
use Rattle.pldm_pdr.specs.declared.fault.RecordFault.TheVariants.{LeftOver}

-- the type of a record (DSP0248, "PDR type values")
unfoldable pub type_name : ℕ → Option (List ℕ)
type_name number =
    if number == 1 then Some (codes "TerminusLocator")
    else if number == 2 then Some (codes "NumericSensor")
    else if number == 3 then Some (codes "NumericSensorInitialization")
    else if number == 4 then Some (codes "StateSensor")
    else if number == 5 then Some (codes "StateSensorInitialization")
    else if number == 6 then Some (codes "SensorAuxiliaryNames")
    else if number == 7 then Some (codes "OEMUnit")
    else if number == 8 then Some (codes "OEMStateSet")
    else if number == 9 then Some (codes "NumericEffecter")
    else if number == 10 then Some (codes "NumericEffecterInitialization")
    else if number == 11 then Some (codes "StateEffecter")
    else if number == 12 then Some (codes "StateEffecterInitialization")
    else if number == 13 then Some (codes "EffecterAuxiliaryNames")
    else if number == 14 then Some (codes "EffecterOEMSemantic")
    else if number == 15 then Some (codes "EntityAssociation")
    else if number == 16 then Some (codes "EntityAuxiliaryNames")
    else if number == 17 then Some (codes "OEMEntityID")
    else if number == 18 then Some (codes "InterruptAssociation")
    else if number == 19 then Some (codes "PDREventLog")
    else if number == 20 then Some (codes "FRURecordSet")
    else if number == 21 then Some (codes "CompactNumericSensor")
    else if number == 126 then Some (codes "OEMDevice")
    else if number == 127 then Some (codes "OEM")
    else None

unfoldable pub fault_name : RecordFault → List ℕ
fault_name Length = codes "Length"
fault_name Version = codes "Version"
fault_name OtherType = codes "OtherType"
fault_name Short = codes "Short"
fault_name Flag = codes "Flag"
fault_name Locator = codes "Locator"
fault_name Size = codes "Size"
fault_name Format = codes "Format"
fault_name Count = codes "Count"
fault_name States = codes "States"
fault_name Shared = codes "Shared"
fault_name Tag = codes "Tag"
fault_name Names = codes "Names"
fault_name LeftOver = codes "LeftOver"
