pub mod MemoryLemmas
pub mod PageLemmas
