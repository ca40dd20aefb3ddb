pub mod Prefixes
pub mod Texts
pub mod Readers
pub mod Buffers
pub mod Parts
