pub mod Export
pub mod Receipt
pub mod Rebuilds
pub mod Values
pub mod Decision
pub mod Filters
pub mod Laws
pub mod Marks
