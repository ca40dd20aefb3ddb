pub mod AttributesLemmas
pub mod PathsLemmas
pub mod WalksLemmas
