pub mod Shown
pub mod Copies
