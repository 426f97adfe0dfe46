pub mod SymbolSets
