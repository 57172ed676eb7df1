pub mod CommandsAsked
pub mod CommandsRead
pub mod DescribedRows
pub mod FirstRecords
pub mod LineFaults
pub mod Numbers
pub mod WalkedOn
