pub mod Parts
pub mod Bytes
pub mod Line
pub mod Entry
pub mod Manner
pub mod Judging
pub mod Text
pub mod Laws
