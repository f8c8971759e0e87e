pub mod ByRule
pub mod Codes
pub mod Searched
pub mod Steps
pub mod Text
pub mod Times
pub mod Walks
pub mod Within
