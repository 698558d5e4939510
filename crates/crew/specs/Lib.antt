pub mod Workers
pub mod Reading
pub mod Accepting
