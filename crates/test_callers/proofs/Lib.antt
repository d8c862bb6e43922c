pub mod OneAmount
pub mod OneSize
pub mod PlainText
