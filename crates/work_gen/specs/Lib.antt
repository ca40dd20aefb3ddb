pub mod Draws
pub mod Work
pub mod Views
