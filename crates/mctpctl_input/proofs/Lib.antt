pub mod CaptureRows
pub mod ChangesSeen
pub mod DigitTables
pub mod DividerRows
pub mod Numbers
pub mod PlainWords
pub mod RefusedWords
pub mod SerialRead
mod WorkedFrames
pub mod WrittenFronts
