pub mod Blocked
pub mod Given
pub mod Going
