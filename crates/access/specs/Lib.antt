pub mod Offsets
pub mod ByPlace
