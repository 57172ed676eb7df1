pub mod BaseAnswers
pub mod BusFrames
pub mod Laws
pub mod NameForms
pub mod RecordArrays
pub mod RecordForms
pub mod RecordWalks
