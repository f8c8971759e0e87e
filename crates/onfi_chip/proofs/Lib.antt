pub mod Numbers
pub mod GroupRun
pub mod Lanes
pub mod Parts
pub mod SimCalls
pub mod Told
