pub mod Values
pub mod Exact
pub mod Passing
pub mod Judging
