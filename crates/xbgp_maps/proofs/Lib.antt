pub mod HeightLemmas
pub mod TreesLemmas
pub mod TablesLemmas
pub mod JournalsLemmas
pub mod MappingsLemmas
pub mod KeysLemmas
