pub mod Changes
pub mod ReadingFaults
