pub mod Sound
pub mod Automaton
pub mod Totals
pub mod Run
pub mod Counts
pub mod Depth
pub mod Balance
pub mod Computing
