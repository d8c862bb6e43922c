pub mod Cuts
pub mod English
pub mod Ranges
pub mod Columns
pub mod Subtags
pub mod Parts
pub mod LocaleTexts
