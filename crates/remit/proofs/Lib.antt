pub mod Limiting
pub mod Cutting
pub mod Parting
