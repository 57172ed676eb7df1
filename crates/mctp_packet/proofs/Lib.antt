pub mod Spelled
pub mod Joined
pub mod PlacedPackets
pub mod ReadBack
pub mod Numbers
pub mod WorkedRows
