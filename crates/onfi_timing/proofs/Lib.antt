pub mod Digits
pub mod Written
pub mod Walk
pub mod Phases
pub mod Stated
pub mod Shared
pub mod Posts
