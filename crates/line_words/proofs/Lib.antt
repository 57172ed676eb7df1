pub mod DecimalPlaces
pub mod FoundPlaces
pub mod LeadingDigits
pub mod LineRows
pub mod LineSplits
pub mod NumberRows
mod DigitLimit
pub mod WordSplits
