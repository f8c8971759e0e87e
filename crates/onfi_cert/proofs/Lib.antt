pub mod Ahead
pub mod Fronted
pub mod Language
pub mod Put
pub mod Spellings
pub mod Walking
pub mod Whole
pub mod Words
