pub mod Pairs
pub mod Stages
pub mod Kernels
pub mod Cascades
pub mod KernelsLemmas
