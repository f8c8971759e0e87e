pub mod Items
pub mod Rule
pub mod Ends
pub use Rattle.onfi_addr.specs.Rows
pub use Rattle.onfi_request.specs.Range
