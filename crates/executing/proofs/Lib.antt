pub mod LocatedLaws
pub mod StateLaws
pub mod HeldLaws
pub mod TurnLaws
pub mod RunLaws
