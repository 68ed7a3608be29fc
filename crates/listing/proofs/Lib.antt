pub mod Loops
pub mod Dues
