pub mod States
pub mod Names
pub mod StateFiles
