pub mod Mappings
pub mod Trees
pub mod Tables
pub mod Journals
pub mod Keys
