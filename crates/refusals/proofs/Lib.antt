pub mod NoEleven
pub mod Unique
