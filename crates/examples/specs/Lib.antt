pub mod Tables
pub mod Claims
pub mod NearMisses
pub mod Apart
