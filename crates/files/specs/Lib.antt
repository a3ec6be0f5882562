pub mod Samples
pub mod Soundings
pub mod Order
pub mod States
pub mod Files
