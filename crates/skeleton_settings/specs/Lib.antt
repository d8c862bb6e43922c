pub mod Settings
pub mod Canonical
