pub mod Phases
pub mod Drive
pub mod Lanes
