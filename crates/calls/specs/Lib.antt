pub mod Phases
pub mod Refusals
pub mod Answers
pub mod Runs
pub mod Texts
