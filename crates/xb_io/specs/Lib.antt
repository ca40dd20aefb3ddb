pub mod Causes
pub mod Memories
pub mod Entries
pub mod Pages
