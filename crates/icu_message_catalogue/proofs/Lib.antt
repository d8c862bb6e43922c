pub mod Entries
pub mod Members
