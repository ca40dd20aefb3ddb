pub mod Events
pub mod Outputs
pub mod Points
pub mod Views
