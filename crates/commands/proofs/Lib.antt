pub mod Ends
pub mod Statuses
pub mod Explanations
pub mod Checks
pub mod CommandEnds
