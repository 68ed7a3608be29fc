pub mod Readings
pub mod Writings
pub mod Facts
pub mod Sound
pub mod Laws
pub mod Keeps
