pub mod Steps
pub mod Numbers
pub mod Stages
