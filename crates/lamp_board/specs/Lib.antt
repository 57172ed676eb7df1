pub mod Lamps
pub mod Counts
