pub mod Spellings
pub mod Rule
