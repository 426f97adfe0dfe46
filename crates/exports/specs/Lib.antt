pub mod Told
pub mod Answered
