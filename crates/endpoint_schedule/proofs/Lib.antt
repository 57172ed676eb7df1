pub mod AskedInOrder
pub mod LinkState
pub mod LinkReceives
pub mod LinkPasses
pub mod LinkHolds
pub mod WorkedLinks
pub mod RecentDeliveries
pub mod PostedEvents
pub mod FollowedRuns
pub mod OpenedRuns
pub mod EventsTaken
pub mod WorkedEvents
pub mod OfferedImages
pub mod OfferedOverLinks
mod WorkedImages
mod WorkedOffers
