pub mod Steps
mod Closed
mod Again
mod Waiting
mod Between
pub mod Node
mod Tree
mod Gaps
mod Ruled
