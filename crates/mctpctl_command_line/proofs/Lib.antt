mod ChoiceRows
pub mod FoundSubcommands
pub mod GivenFlags
