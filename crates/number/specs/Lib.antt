pub mod Limits
pub mod Operations
