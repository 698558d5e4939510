pub mod Pending
pub mod Leaving
pub mod Dead
pub mod TableFaults
