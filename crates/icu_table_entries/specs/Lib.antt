pub mod Keys
pub mod Reading
pub mod Named
pub mod Answering
pub mod Spelling
pub mod PatternTexts
pub mod CategoryTexts
