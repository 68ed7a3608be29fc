pub mod Constants
pub mod Images
pub mod Writes
pub mod Example
