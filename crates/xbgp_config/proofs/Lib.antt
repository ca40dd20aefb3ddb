pub mod AddressLemmas
pub mod ConfigLemmas
