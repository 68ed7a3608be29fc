pub mod Agreement
pub mod Rows
pub mod Delays
pub mod Rises
pub mod Sums
