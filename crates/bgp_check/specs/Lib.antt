pub mod Codes
pub mod Judgement
