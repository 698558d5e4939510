pub mod OrderedParts
pub mod ReadAhead
pub mod Queued
pub mod FirstHead
pub mod Kept
