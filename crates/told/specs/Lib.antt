pub mod Lines
pub mod Questions
