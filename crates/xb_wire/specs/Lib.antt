pub mod Messages
pub mod Headers
pub mod Views
pub mod Fronts
