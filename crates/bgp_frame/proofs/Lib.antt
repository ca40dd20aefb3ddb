pub mod PieceLemmas
pub mod WaitingLemmas
