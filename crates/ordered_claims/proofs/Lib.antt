pub mod Lists
pub mod Reading
pub mod Queueing
pub mod FirstOfFiles
pub mod Ordering
pub mod Keeping
pub mod Moving
