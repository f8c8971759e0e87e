pub mod Opening
pub mod Dealing
pub mod Planning
pub mod Parts
