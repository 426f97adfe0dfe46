pub mod Limits
pub mod Table
pub mod Verdicts
pub mod Reading
pub mod WellFormed
