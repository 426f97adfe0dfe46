pub mod First
pub mod TableCases
pub mod PlanningCases
pub mod TreeCases
pub mod AllCases
