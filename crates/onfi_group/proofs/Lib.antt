pub mod Rising
pub mod Lists
pub mod Placing
mod Growing
pub mod Counting
mod Masks
pub mod Firsts
pub mod PhaseLengths
