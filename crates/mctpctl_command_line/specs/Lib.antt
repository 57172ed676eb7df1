pub mod Choice
pub mod FaultNumbers
