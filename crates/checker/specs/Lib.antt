pub mod Refusals
pub mod Verdict
pub mod Passes
pub mod Examples
