pub mod Actions
pub mod Follows
pub mod Order
pub mod Paper
