pub mod Lefts
pub mod Offers
pub mod Results
