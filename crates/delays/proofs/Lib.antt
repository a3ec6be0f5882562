pub mod Splits
pub mod Orders
pub mod Sums
pub mod Counts
