pub mod Driver
pub mod Sequencer
pub mod Turned
pub mod NoClock
pub mod Drained
