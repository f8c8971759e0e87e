pub mod Bounds
pub mod Parts
pub mod Reaching
pub mod Loads
pub mod Commands
