pub mod Steps
pub mod Runs
pub mod RecordTests
pub mod Answers
