pub mod Paper
pub mod Paths
pub mod Computed
