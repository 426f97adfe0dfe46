pub mod PathLaws
pub mod Occurrences
pub mod Rounds
pub mod Least
pub mod ExactIdp
pub mod Induced
