pub mod Piecewise
pub mod Refusals
pub mod Spelled
pub mod TableLines
pub mod ReportLines
