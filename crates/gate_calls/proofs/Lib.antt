pub mod Sections
pub mod Journals
pub mod Claims
pub mod HeldClaims
pub mod Passes
