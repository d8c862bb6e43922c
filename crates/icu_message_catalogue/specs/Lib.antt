pub mod Catalogue
pub mod Entries
pub mod Reading
