pub mod Words
pub mod Planes
pub mod Group
pub mod Joining
pub mod Listing
