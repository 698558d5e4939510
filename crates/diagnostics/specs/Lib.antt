pub mod Edits
pub mod Position
