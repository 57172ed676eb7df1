pub mod AnswerFrames
pub mod AskedNumbers
pub mod Awaiting
pub mod EventsSeen
pub mod FramesRead
pub mod Going
pub mod Hearing
mod LastMoments
pub mod LinesHaveBytes
pub mod LogsSeen
pub mod Opening
pub mod PacketsHeard
pub mod QueryTaken
pub mod SameRequester
pub mod SameResponder
pub mod Sending
pub mod ServedNumbers
pub mod Silent
pub mod TextsAdded
pub mod Turning
pub mod WorkedLines
mod HeardPackets
