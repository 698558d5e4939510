pub mod Words
pub mod Texts
pub mod Comparisons
pub mod Explanations
pub mod Ends
