pub mod Answer
pub mod Ascii
pub mod Identifier
pub mod Locale
pub mod NumberingSystem
pub mod Padded
