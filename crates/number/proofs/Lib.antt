pub mod Lawful
mod Products
