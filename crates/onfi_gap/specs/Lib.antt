pub mod Cuts
pub mod Following
pub mod Pieces
pub mod Summary
pub mod Text
pub mod Whole
