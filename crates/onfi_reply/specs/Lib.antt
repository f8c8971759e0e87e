pub mod Replies
pub mod Rule
pub mod Ends
pub use Rattle.onfi_die.specs.Order
