pub mod Candidates
pub mod Exports
pub mod Forms
pub mod Places
pub mod Sound
pub mod Rooms
pub mod Each
