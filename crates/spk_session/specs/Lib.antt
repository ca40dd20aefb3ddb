pub mod Routed
pub mod Meaning
pub mod Acting
pub mod Taking
pub mod Firing
pub mod Hosting
pub mod Starting
pub mod Telling
