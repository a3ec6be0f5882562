pub mod Cases
pub mod Worked
pub mod Stated
