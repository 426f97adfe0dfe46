pub mod Paper
pub mod Visits
pub mod Computed
