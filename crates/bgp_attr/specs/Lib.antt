pub mod Attributes
pub mod Paths
pub mod Routes
pub mod Rules
pub mod Views
pub mod Walks
