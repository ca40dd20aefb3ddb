pub mod Words
pub mod Steps
pub mod Does
pub mod Running
pub mod Fuel
pub mod Worlds
