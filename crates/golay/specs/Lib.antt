pub mod Stages
pub mod Kernels
