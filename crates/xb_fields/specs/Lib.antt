pub mod Fields
pub mod Outcomes
