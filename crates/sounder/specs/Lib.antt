pub mod States
pub mod Standing
