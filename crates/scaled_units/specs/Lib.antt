pub mod Scales
pub mod Suffixes
pub mod Reading
pub mod Shown
pub mod Laws
