pub mod OwnersLemmas
