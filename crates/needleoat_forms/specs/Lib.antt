pub mod Answers
pub mod AnswersToRequests
pub mod Commands
pub mod Messages
pub mod Packets
pub mod States
pub mod Written
