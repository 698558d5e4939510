pub mod WholePlans
pub mod TestStatuses
mod RowsStatuses
mod Comparisons
mod Unions
mod Parts
pub mod PageStatuses
mod OptionWords
