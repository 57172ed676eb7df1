pub mod FramesRead
pub mod Registers
pub mod Spelling
pub mod Numbers
pub mod WorkedFrames
pub mod Polynomials
pub mod Divided
pub mod FramesReported
