pub mod Helpers
pub mod Slots
pub mod Forms
pub mod Loading
pub mod Seconds
pub mod Sound
pub mod Decoded
