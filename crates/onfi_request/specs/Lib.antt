pub mod Parts
pub mod Range
pub mod Items
pub mod Words
pub use Rattle.onfi_addr.specs.Rows
