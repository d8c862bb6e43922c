pub mod Operands
pub mod Shown
