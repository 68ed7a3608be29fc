pub mod Ranges
pub mod Complete
pub mod Wanted
pub mod Sound
