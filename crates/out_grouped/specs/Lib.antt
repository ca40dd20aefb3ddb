pub mod Told
pub mod Waits
pub mod Slots
pub mod Groups
pub mod Sending
