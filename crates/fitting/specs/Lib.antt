pub mod Steps
pub mod Known
pub mod Depth
pub mod Types
pub mod Targets
pub mod Pins
