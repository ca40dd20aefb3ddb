pub mod Memory
pub mod Offsets
pub mod Lending
