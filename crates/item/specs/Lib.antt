pub mod Mnemonics
pub mod Items
