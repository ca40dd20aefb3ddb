pub mod SlotLemmas
pub mod WaitLemmas
pub mod PendingLemmas
pub mod ChangeLemmas
pub mod SendingLemmas
pub mod NextLemmas
