pub mod Lines
pub mod Logs
pub mod Views
pub mod Readings
