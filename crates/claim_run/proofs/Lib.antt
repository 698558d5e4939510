pub mod OrderedRuns
pub mod Remittances
