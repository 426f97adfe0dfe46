pub mod TestLaws
pub mod ListLaws
pub mod CountingLaws
