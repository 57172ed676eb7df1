pub mod RecordsWalked
pub mod RecordsFound
pub mod RecordsSummed
pub mod RecordsHeld
pub mod Constants
pub mod WorkedAnswers
pub mod WorkedRecords
