pub mod HeardLemmas
pub mod EntryLemmas
pub mod ListedLemmas
pub mod SettledLemmas
