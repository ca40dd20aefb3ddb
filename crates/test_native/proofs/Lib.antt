pub mod ApartLemmas
pub mod CheckedLemmas
