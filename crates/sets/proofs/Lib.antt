pub mod Classes
pub mod Sinks
pub mod Placing
pub mod Largest
pub mod Placed
pub mod SetWords
pub mod Visits
pub mod OneNumbering
