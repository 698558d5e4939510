pub mod Values
pub mod Regions
