pub mod Complete
pub mod Sound
pub mod Told
pub mod Viable
pub mod Capping
pub mod Bounds
