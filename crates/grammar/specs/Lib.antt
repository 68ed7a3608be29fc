pub mod Grammar
pub mod Lists
pub mod Capped
