pub mod Everywhere
pub mod Known
pub mod Brackets
pub mod Sentences
pub mod Targets
pub mod Calls
pub mod Jumps
pub mod Agreement
