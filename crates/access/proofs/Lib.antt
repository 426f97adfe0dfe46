pub mod Laws
pub mod Blocks
pub mod Same
pub mod Accessors
pub mod TableLaws
