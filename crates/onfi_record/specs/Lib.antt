pub mod Carried
pub mod Recording
