pub mod HelperLemmas
pub mod SecondLemmas
pub mod LoadLemmas
pub mod InsnLemmas
