pub mod CommaSplits
mod WorkedFates
