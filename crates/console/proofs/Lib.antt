mod Rounds
pub mod Subcommands
