pub mod CheckReport
pub mod CheckText
pub mod ErrorsText
pub mod Findings
