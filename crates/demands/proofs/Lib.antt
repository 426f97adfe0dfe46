pub mod LeavesLaws
pub mod Demands
pub mod Determined
