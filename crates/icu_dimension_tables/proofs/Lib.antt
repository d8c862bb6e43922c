pub mod ByValue
pub mod PatternFaults
pub mod CompactRows
pub mod Repeated
pub mod Splits
pub mod Filed
pub mod ForLocale
