pub mod TellLaws
pub mod Unique
