pub mod DocumentText
pub mod Counts
mod EntityNumbers
mod TableRefused
mod LargestHandles
mod HandlesApart
mod RecordsMade
mod ThingsRecorded
mod TablesRecorded
mod DescribedHandles
pub mod Blank
pub mod DescriptionLiterals
pub mod WorkedDescriptions
mod WorkedControlTables
pub mod Numbers
mod WorkedRecordEntries
