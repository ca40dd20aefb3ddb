pub mod Walks
pub mod Views
pub mod Joins
pub mod Heard
