pub mod Naming
pub mod Fitting
pub mod Sets
