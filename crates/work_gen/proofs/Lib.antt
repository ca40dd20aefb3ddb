mod Rows
pub mod WorkLemmas
