pub mod Automata
pub mod Pair
pub mod Pairing
