pub mod PackingLemmas
pub mod MessageLemmas
pub mod ReadBackLemmas
pub mod SetLemmas
pub mod PendingLemmas
