pub mod Steps
pub mod Fits
