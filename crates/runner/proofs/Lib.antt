pub mod WholeRunLaws
pub mod Unique
