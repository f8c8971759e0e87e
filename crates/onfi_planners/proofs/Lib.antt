pub mod Choosing
pub mod Costs
pub mod Found
