pub mod RemainsLaws
pub mod PartLaws
pub mod MaskLaws
pub mod BlockSetLaws
pub mod LeftLaws
pub mod MemberWalks
pub mod VisitSetLaws
pub mod LeaveSetLaws
