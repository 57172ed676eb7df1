pub mod Reasons
pub mod Divisions
pub mod PathTexts
pub mod TextPlaces
pub mod RepeatedWords
pub mod AllowedWords
