pub mod Order
pub mod Batch
pub mod Course
