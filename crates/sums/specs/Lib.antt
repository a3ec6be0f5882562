pub mod Sums
pub mod Codes
pub mod Rooms
pub mod Sides
