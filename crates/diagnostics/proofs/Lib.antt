pub mod OneEdits
pub mod Counting
