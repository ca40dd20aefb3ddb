pub mod Told
pub mod Waits
pub mod Slots
pub mod Sending
