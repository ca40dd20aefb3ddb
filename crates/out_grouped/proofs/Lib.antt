pub mod SlotLemmas
pub mod WaitLemmas
pub mod GroupLemmas
pub mod ChangeLemmas
pub mod PendingLemmas
pub mod SendingLemmas
pub mod NextLemmas
