pub mod Places
pub mod Widths
pub mod MarkedRows
pub mod EachPassed
pub mod Possible
pub mod RowsLeft
mod WorkedRows
mod WorkedTables
mod WorkedLines
mod Numbers
