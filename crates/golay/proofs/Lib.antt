pub mod Blends
pub mod Pushes
pub mod Weights
pub mod Roots
pub mod StageLaws
pub mod Units
pub mod Signs
pub mod Tens
