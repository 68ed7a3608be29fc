pub mod Deciding
pub mod Clearing
pub mod Passing
pub mod Showing
