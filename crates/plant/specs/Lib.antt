pub mod Points
pub mod Faults
