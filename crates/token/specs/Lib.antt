pub mod Cuts
pub mod Runs
pub mod Tokens
pub mod Reads
