pub mod Pools
pub mod Fields
pub mod Kept
