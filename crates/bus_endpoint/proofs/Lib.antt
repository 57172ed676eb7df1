pub mod Come
pub mod OneEid
