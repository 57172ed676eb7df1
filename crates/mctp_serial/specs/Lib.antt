pub mod CheckSequences
pub mod SerialFaults
pub mod Frames
pub mod Readings
pub mod Places
pub mod Remainders
pub mod CheckLaws
pub mod Laws
