pub mod AgentEnds
pub mod FirmwareEnds
pub mod FlashCalls
pub mod OwnAnswers
pub mod TypeAnswers
