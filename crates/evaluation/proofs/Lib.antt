pub mod Answered
pub mod Causes
pub mod Givens
pub mod Names
pub mod ReadNames
pub mod Refusals
pub mod Splits
pub mod Statuses
