pub mod WalkLemmas
pub mod UpdateLemmas
