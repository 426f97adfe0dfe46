pub mod NodeTestLaws
pub mod NameLaws
pub mod WholeCheckLaws
pub mod OneWalkLaws
pub mod FirstOrphanLaws
