pub mod Readings
pub mod Appended
pub mod Fields
pub mod Steps
pub mod Given
pub mod SharedRecords
pub mod Audits
