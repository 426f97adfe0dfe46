pub mod VerdictLaws
pub mod AcceptedSymbols
pub mod AcceptedRules
pub mod AcceptedTable
pub mod RuleStarts
pub mod FormedTable
pub mod OccurrenceLaws
