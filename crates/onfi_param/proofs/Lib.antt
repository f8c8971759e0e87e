pub mod CopyLemmas
pub mod Division
pub mod Unique
