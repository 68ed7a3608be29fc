pub mod Lays
pub mod Digits
