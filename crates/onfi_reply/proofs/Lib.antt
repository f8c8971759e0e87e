pub mod Proper
pub mod Steps
pub mod Given
