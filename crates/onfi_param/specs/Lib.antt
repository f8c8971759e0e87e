pub mod Crc
pub mod Register
pub mod Fields
pub mod Copies
