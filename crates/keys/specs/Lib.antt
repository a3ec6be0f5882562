pub mod Refusals
pub mod Judged
pub mod KernelNames
pub mod StageLists
pub mod Plans
pub mod Recursion
pub mod KeyCodes
