pub mod Bits
pub mod Faults
pub mod Layout
pub mod Limits
pub mod Rows
pub mod Sectors
pub use Rattle.onfi_param.specs.Fields
