pub mod KeyRuns
pub mod Scripts
pub mod Sheets
