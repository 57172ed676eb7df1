pub mod Passing
pub mod PecFurther
pub mod SmbusReadBack
pub mod I3cReadBack
pub mod Codewords
pub mod FirstBytes
pub mod ChangesSeen
pub mod OtherTransfers
mod Numbers
mod WorkedFrames
