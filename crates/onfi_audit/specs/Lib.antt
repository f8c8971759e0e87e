pub mod Audit
pub mod Legal
pub mod Laws
