pub mod Chains
pub mod Words
pub mod Places
pub mod Values
pub mod Changes
