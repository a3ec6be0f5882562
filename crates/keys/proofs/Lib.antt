pub mod Loops
pub mod Accepted
pub mod Built
pub mod Cascades
pub mod Padding
pub mod KeyCodes
