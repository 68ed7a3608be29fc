pub mod Flags
pub mod Ranges
pub mod Walk
