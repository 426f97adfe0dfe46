pub mod Tree
pub mod Checking
pub mod Equations
pub mod Formed
pub mod Definers
