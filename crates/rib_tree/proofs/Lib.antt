pub mod AddressLemmas
pub mod AppendLemmas
pub mod BlockLemmas
pub mod PageLemmas
pub mod TreesLemmas
