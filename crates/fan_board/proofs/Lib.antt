pub mod BoardRows
pub mod LineRows
pub mod Numbers
pub mod ServedSteps
