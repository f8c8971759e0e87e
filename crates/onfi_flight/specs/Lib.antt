pub mod Turns
pub mod Times
pub mod Flight
pub mod Laws
