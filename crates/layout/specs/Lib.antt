pub mod Refusals
pub mod Tests
pub mod Fields
pub mod Order
pub mod Read
