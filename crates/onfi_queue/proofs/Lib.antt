pub mod Numbering
pub mod Ports
pub mod Steps
