pub mod Endings
pub mod Explanations
