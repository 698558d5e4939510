pub mod Callers
pub mod Filing
pub mod Jobs
pub mod Meeting
pub mod Order
