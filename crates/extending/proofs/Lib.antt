pub mod DescentLaws
pub mod ExtendLaws
