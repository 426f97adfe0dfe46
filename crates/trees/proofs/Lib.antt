pub mod AcceptedTree
pub mod Formed
pub mod Cells
pub mod EquationLaws
