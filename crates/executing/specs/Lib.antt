pub mod Located
pub mod State
