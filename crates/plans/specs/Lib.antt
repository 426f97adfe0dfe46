pub mod Buffers
pub mod Sequences
pub mod Answer
pub mod Left
