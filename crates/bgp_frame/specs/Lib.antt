pub mod Waiting
pub mod Fronts
pub mod Pieces
