pub mod Cycles
pub mod Closes
pub mod Arcs
pub mod Rules
pub mod Stale
