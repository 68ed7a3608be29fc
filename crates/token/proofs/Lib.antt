pub mod Steps
pub mod Theorem
pub mod Commas
