pub mod Passing
pub mod Placed
pub mod NumberRanges
pub mod FieldLists
pub mod Cells
pub mod SizeCodes
pub mod FieldsRead
pub mod RowsRead
pub mod PartsRead
pub mod FlagNumbers
pub mod ReadAnswers
pub mod WrittenNumbers
pub mod ReadResponses
pub mod ReadRequests
pub mod ReadCommands
pub mod ReadBack
pub mod FittingMessages
pub mod Numbers
pub mod Polynomials
pub mod Remainders
pub mod Checksums
pub mod ChecksumTable
mod Examples
mod LongDivision
mod WorkedChecksums
