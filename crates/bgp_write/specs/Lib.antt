pub mod Written
pub mod Packings
pub mod Packers
pub mod Pending
