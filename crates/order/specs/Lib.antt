pub mod Paper
pub mod Computed
