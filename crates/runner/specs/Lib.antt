pub mod Whole
pub mod Answered
