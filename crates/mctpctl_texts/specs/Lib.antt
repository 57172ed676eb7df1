pub mod EntryTexts
pub mod Gathering
pub mod HexPairs
pub mod OutcomeTexts
pub mod Phrases
pub mod ReportTexts
pub mod ShownLines
pub mod Writers
