pub mod Described
pub mod Readers
pub mod Words
