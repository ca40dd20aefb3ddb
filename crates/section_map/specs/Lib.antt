pub mod Sums
pub mod Sections
pub mod Lends
