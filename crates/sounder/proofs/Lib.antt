pub mod Division
pub mod Holding
pub mod Records
pub mod Standing
pub mod Replaying
