pub mod Words
pub mod Counts
pub mod Names
pub mod Lists
