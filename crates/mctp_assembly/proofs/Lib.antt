pub mod KeyOrder
pub mod HeldEntries
pub mod WorkedRows
pub mod RowsByStep
pub mod StepsLookBack
pub mod CallsLookBack
pub mod RowsAreOne
pub mod CopiesJoin
pub mod NumberLookups
pub mod DifferingPlaces
pub mod NumberPlaces
pub mod OpenPlaces
pub mod ListedNumbers
pub mod PacketEnds
pub mod TakenPackets
pub mod NumberedMaps
pub mod KeyNumbers
mod Numbers
