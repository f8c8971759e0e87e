pub mod Lists
pub mod Turns
pub mod Lags
pub mod Shifted
pub mod Running
pub mod Begins
pub mod Late
pub mod Stays
