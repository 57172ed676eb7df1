pub mod ChecksumTests
pub mod FetchSteps
pub mod HandlesLeft
pub mod TypesLeft
pub mod WalkSteps
pub mod WalksEnd
pub mod WorkedWalks
mod Numbers
