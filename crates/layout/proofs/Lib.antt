pub mod Rests
pub mod Missing
pub mod Stages
pub mod Orders
pub mod Firsts
pub mod KeyBytes
pub mod FileTests
