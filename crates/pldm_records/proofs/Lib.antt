pub mod RecordAdded
pub mod PartsFollowed
pub mod DoneIsTheRecord
pub mod PartsGiveTheRecord
pub mod WorkedRecords
pub mod FetchLooksBack
pub mod RepositoryFetched
pub mod Numbers
