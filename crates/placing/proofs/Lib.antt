pub mod TakenLaws
pub mod SymbolLaws
pub mod StepLaws
pub mod SetsLaws
pub mod SameSymbolSets
