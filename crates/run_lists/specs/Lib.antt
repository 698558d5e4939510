pub mod Entries
pub mod Charges
pub mod Closing
pub mod ClosingText
pub mod Notes
pub mod CarryingOn
pub mod ReadingBack
