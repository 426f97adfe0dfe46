pub mod Answers
pub mod Ordered
pub mod RowWords
pub mod PlanWords
pub mod Left
pub mod Stays
