pub mod Places
pub mod Marks
pub mod Jumps
pub mod Cells
