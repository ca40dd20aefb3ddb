pub mod Ribs
pub mod Meaning
pub mod Deciding
pub mod Starting
