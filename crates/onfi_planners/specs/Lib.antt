pub mod Choice
pub mod Cost
pub mod Steps
pub mod Weighing
