pub mod Remaining
pub mod RuleSets
