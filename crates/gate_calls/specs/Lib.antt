pub mod MetAlone
pub mod Sharing
pub mod Passes
