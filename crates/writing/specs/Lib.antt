pub mod Texts
pub mod Law
