pub mod Endings
pub mod Matched
