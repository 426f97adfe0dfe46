pub mod Stages
pub mod Answered
