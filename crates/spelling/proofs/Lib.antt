pub mod Walk
pub mod Reread
