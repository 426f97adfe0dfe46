pub mod Bit
pub mod End
pub mod Next
