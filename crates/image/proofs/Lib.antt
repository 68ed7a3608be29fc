pub mod Laid
pub mod Words
pub mod Whole
