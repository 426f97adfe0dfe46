pub mod ShownLaws
pub mod PageLaws
pub mod LineLaws
pub mod PlanLaws
pub mod TableLaws
pub mod Fits
pub mod Unique
