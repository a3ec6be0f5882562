-- The definitions that the contracts of the kinds cite.
pub mod Samples
pub mod Exact
pub mod Halls
pub mod Radios
pub mod Kinds
pub mod HallsLemmas
pub mod Integers
pub mod Words
pub mod Through
pub mod Roots
pub mod Rings
pub mod Encodings
pub mod RadiosLemmas
pub mod KindNames
