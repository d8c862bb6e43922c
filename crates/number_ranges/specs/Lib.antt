pub mod Reported
pub mod Ranges
pub mod WroteRange
pub mod Compact
pub mod ByCategory
