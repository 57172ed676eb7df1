pub mod Fates
pub mod Faulty
pub mod Spellings
