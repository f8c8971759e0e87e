pub mod Text
pub mod Word
pub mod Reading
pub mod Ahead
