pub mod Quotes
pub mod Scans
