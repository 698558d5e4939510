pub mod Integers
pub mod Ranges
