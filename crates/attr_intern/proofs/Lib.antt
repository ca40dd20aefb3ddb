pub mod LookupLemmas
pub mod EntriesLemmas
pub mod FieldsLemmas
pub mod KeptLemmas
pub mod PoolLemmas
