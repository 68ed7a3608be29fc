pub mod Meaning
pub mod Windows
