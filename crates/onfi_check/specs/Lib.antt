pub mod Tree
pub mod Ends
pub mod Reading
pub mod Faults
pub mod First
pub mod Nodes
