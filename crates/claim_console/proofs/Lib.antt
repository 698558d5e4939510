pub mod Ends
pub mod Statuses
