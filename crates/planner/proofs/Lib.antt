pub mod RoomLaws
pub mod WriteLaws
pub mod StageLaws
pub mod Unique
pub mod AcceptedLaws
