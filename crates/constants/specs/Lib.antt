pub mod Rules
pub mod Decoded
pub mod Lawful
