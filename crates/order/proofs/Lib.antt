pub mod NeighbouringSets
pub mod ExactEdp
pub mod PaperSets
pub mod CycleSearch
pub mod WholeGrammar
