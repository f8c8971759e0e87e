pub mod Closing
pub mod Proves
pub mod Laws
pub mod Text
pub mod Word
pub mod Faults
pub mod Refused
