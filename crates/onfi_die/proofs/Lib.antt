pub mod Lists
pub mod Outputs
pub mod Stable
pub mod Apart
pub mod Order
pub mod Keeping
pub mod Same
