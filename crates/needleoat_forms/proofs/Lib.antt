pub mod FirstStates
pub mod Constants
pub mod WorkedRows
